-- Definitions for the proofs of building a reply.
use Rattle.std.specs.Prelude.{◌≡◌, List, [], ◌∷◌, ◌++◌, IfSome, Result, Ok, Err}
use Rattle.gname.specs.Ids.{IsId}
use Rattle.gname.specs.Names.{IsRefName}
use Rattle.ggrammar.specs.declared.fault.Why.TheVariants.{Memory}
use Rattle.ggrammar.specs.declared.fault.MessageFault.{MessageFault}
use Rattle.glsreply.specs.RefTexts.{RefLine}

-- a valid line of a ref; its two ids may have different formats
pub record IsLine (line : RefLine) : Type 0 where
  pub id : IsId line.id
  pub name : IsRefName line.name
  pub symref : IfSome line.symref IsRefName
  pub peeled : IfSome line.peeled IsId

-- ---- building a reply

-- the line is added at the end, or the call fails with `Memory` and the lines are unchanged
abbrev pub Adds : List RefLine → RefLine → List RefLine → Result Unit MessageFault → Type 0
Adds old line new (Ok done) = new ≡ old ++ line ∷ []
Adds old line new (Err fault) = (new ≡ old) × (fault.frame ≡ 0) × (fault.why ≡ Memory)
