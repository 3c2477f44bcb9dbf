-- Arguments that are read as prefixes of ref names.
use Rattle.std.specs.Prelude.{◌≡◌, List, ◌∷◌, ◌++◌, All, Result, Ok, Err}
use Rattle.gname.specs.Names.{IsPrefix, Owns, prefix_fault}
use Rattle.gname.specs.declared.faults.NameFault.{NameFault}
use Rattle.gpkt.specs.Packets.{Bytes}
use Rattle.gcmd.specs.declared.fault.ProgramFault.{ProgramFault}
use Rattle.gcmd.specs.declared.fault.ProgramFault.TheVariants as program

-- the fault of the first argument that is not a prefix, or for which memory runs out
pub record RefusesPrefix (words : List Bytes) (fault : NameFault) : Type 0 where
  pub front : List Bytes
  pub word : Bytes
  pub back : List Bytes
  pub parts : words ≡ front ++ word ∷ back
  pub before : All IsPrefix front
  pub refused : Owns prefix_fault word (Err fault)

-- the result of reading the arguments: the unchanged arguments if each argument is a prefix of ref names, and otherwise
-- the fault of the first invalid argument
abbrev pub ReadsPrefixes : {A : Type 0} → List Bytes → Result (List Bytes) (ProgramFault A) → Type 0
ReadsPrefixes words (Ok prefixes) = (prefixes ≡ words) × All IsPrefix words
ReadsPrefixes words (Err (program.Name fault)) = RefusesPrefix words fault
ReadsPrefixes words (Err _) = ⊥
