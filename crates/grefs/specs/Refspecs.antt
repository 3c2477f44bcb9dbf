-- Refspecs (git-fetch(1), "<refspec>"): the refs of a remote repository to fetch, and the local refs to update. Only
-- the form `SRC:DST`, with an optional `+` before it, is accepted. Git accepts more forms.
use Rattle.std.specs.List.{ends_with, starts_with}
use Rattle.std.specs.Prelude.{◌≡◌, ℕ, Bool, true, false, ◌&&◌, List, [], ◌++◌, length, drop, codes, nat_eq, nat_lt}
use Rattle.std.specs.Prelude.{if◌then◌else◌, Option, None, Some, Result, Ok, Err}
use Rattle.std.specs.Str.{bytes_eq}
use Rattle.gname.specs.Names.{Name, IsRefName, Owns, name_fault}
use Rattle.gname.specs.declared.faults.NameFault.{NameFault}
use Rattle.grefs.specs.RefLists.{IsBelowRefs}
use Rattle.grefs.specs.declared.refspec.fault.SpecFault.{SpecFault}
use Rattle.grefs.specs.declared.refspec.fault.SpecFault.TheVariants.{BadSpec, Memory}

-- a refspec: whether it forces updates, whether it is a pattern, its source and its destination; a pattern's source and
-- destination are stored without `*`
pub record Refspec : Type 0 where
  pub forced : Bool
  pub pattern : Bool
  pub source : List ℕ
  pub destination : List ℕ

-- ---- texts

-- the text of a source or of a destination, with `*` if it belongs to a pattern
abbrev pub side_text : Bool → List ℕ → List ℕ
side_text true side = side ++ codes "*"
side_text false side = side

-- `+` if the refspec forces updates, otherwise nothing
abbrev pub force_text : Bool → List ℕ
force_text true = codes "+"
force_text false = []

-- the source and the destination, with `:` between them
abbrev pub sides_text : Refspec → List ℕ
sides_text spec = side_text spec.pattern spec.source ++ (codes ":" ++ side_text spec.pattern spec.destination)

-- the text of a refspec
abbrev pub spec_text : Refspec → List ℕ
spec_text spec =
    force_text spec.forced ++ sides_text spec

-- the part of a pattern before its `*`: the part ends with a slash, and the part followed by `x` is a ref name below
-- refs/
pub record IsStem (stem : List ℕ) : Type 0 where
  pub slash : ends_with nat_eq stem (codes "/") ≡ true
  pub name : IsBelowRefs (stem ++ codes "x")

-- a valid source and a valid destination: a ref name and a ref name below refs/, or for a pattern two texts that may
-- precede a `*`
abbrev pub AreSides : Bool → List ℕ → List ℕ → Type 0
AreSides false source destination = IsRefName source × IsBelowRefs destination
AreSides true source destination = IsStem source × IsStem destination

-- a valid refspec: its source and its destination are valid
abbrev pub IsRefspec : Refspec → Type 0
IsRefspec spec = AreSides spec.pattern spec.source spec.destination

-- the text encodes this valid refspec
pub record IsSpec (text : List ℕ) (spec : Refspec) : Type 0 where
  pub written : text ≡ spec_text spec
  pub sides : IsRefspec spec

-- the result of parsing a refspec that satisfies P: a refspec that satisfies P, `Memory` if some refspec satisfies P,
-- or `BadSpec` if none does
abbrev pub Reads : (Refspec → Type 0) → Result Refspec SpecFault → Type 0
Reads P (Ok spec) = P spec
Reads P (Err BadSpec) = (spec : Refspec) → ¬ (P spec)
Reads P (Err Memory) = (spec : Refspec) × P spec

-- a text encodes at most one refspec
abbrev pub OneReading : Type 0
OneReading = (text : List ℕ) (a b : Refspec) → IsSpec text a → IsSpec text b → a ≡ b

-- ---- the mapping of ref names

-- whether the source matches a name: the source is that name, or the source of a pattern is a proper prefix of that
-- name
abbrev pub matches : Refspec → Name → Bool
matches spec name =
    if spec.pattern then starts_with nat_eq name spec.source && nat_lt (length spec.source) (length name)
    else bytes_eq name spec.source

-- the destination of a name that the source matches: in a pattern, the part of the name that the source's `*` matched
-- replaces the destination's `*`
abbrev pub destination_of : Refspec → Name → List ℕ
destination_of spec name = spec.destination ++ drop (length spec.source) name

-- the result of mapping a name to its destination: `None` if the source does not match the name; otherwise the
-- destination, or its first fault as a ref name, or `Memory` if it has no fault
abbrev pub FindsDestination : Refspec → Name → Result (Option Name) NameFault → Type 0
FindsDestination spec name (Ok None) = matches spec name ≡ false
FindsDestination spec name (Ok (Some destination)) =
    (matches spec name ≡ true) × Owns name_fault (destination_of spec name) (Ok destination)
FindsDestination spec name (Err fault) =
    (matches spec name ≡ true) × Owns name_fault (destination_of spec name) (Err fault)
