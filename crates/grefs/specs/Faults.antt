-- The table of faults, with the number, the name and the text of each fault.
use Rattle.std.specs.Prelude.{ℕ, List, codes}
use Rattle.gname.specs.Faults.{FaultRow, out_of_memory, out_of_memory_text}
use Rattle.grefs.specs.declared.fault.RefsFault.{RefsFault}
use Rattle.grefs.specs.declared.fault.RefsFault.TheVariants as refs

-- the number and the name of each fault of setting a ref
abbrev pub refs_fault_row : RefsFault → FaultRow
refs_fault_row refs.Refs = (69, codes "Refs")
refs_fault_row refs.Memory = out_of_memory

abbrev pub refs_fault_text : RefsFault → List ℕ
refs_fault_text refs.Refs = codes "the ref can't be set"
refs_fault_text refs.Memory = out_of_memory_text
