-- Definitions for the proofs of parsing a refspec.
use Rattle.std.specs.Prelude.{◌≡◌, ℕ, Bool, List, nat_eq}
use Rattle.grefs.specs.Refspecs.{Refspec, AreSides, IsRefspec, side_text, sides_text}

-- the text after the optional `+` encodes this refspec
pub record IsRest (forced : Bool) (text : List ℕ) (spec : Refspec) : Type 0 where
  pub force : spec.forced ≡ forced
  pub written : text ≡ sides_text spec
  pub sides : IsRefspec spec

-- the texts before and after the `:` are the source and the destination of this refspec
pub record HasTexts (forced : Bool) (source destination : List ℕ) (spec : Refspec) : Type 0 where
  pub force : spec.forced ≡ forced
  pub from : source ≡ side_text spec.pattern spec.source
  pub to : destination ≡ side_text spec.pattern spec.destination
  pub sides : IsRefspec spec

-- a valid refspec with this source and this destination
pub record HasSides (forced pattern : Bool) (source destination : List ℕ) (spec : Refspec) : Type 0 where
  pub is : spec ≡ record { forced = forced; pattern = pattern; source = source; destination = destination }
  pub sides : AreSides pattern source destination

-- whether a byte is `:`
abbrev pub is_colon : ℕ → Bool
is_colon byte = nat_eq byte 58
