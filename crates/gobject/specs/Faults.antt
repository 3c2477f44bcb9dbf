-- The table of faults, with the number, the name and the text of each fault.
use Rattle.std.specs.Prelude.{ℕ, List, ◌++◌, codes}
use Rattle.std.specs.Fmt.{decimal}
use Rattle.gname.specs.Faults.{FaultRow, out_of_memory_text}
use Rattle.gobject.specs.declared.fault.PackFault.{PackFault}
use Rattle.gobject.specs.declared.fault.PackFault.TheVariants as pack
use Rattle.gobject.specs.declared.fault.IndexFault.{IndexFault}
use Rattle.gobject.specs.declared.fault.IndexFault.TheVariants as index

-- the number and the name of a fault of packing, which are the same for all faults of packing
abbrev pub pack_fault_row : PackFault → FaultRow
pack_fault_row _ = (65, codes "Pack")

-- the number and the name of a fault of indexing, which are the same for all faults of indexing
abbrev pub index_fault_row : IndexFault → FaultRow
index_fault_row _ = (66, codes "Index")

-- the text of each fault of packing, as `Display` writes it
abbrev pub pack_fault_text : PackFault → List ℕ
pack_fault_text pack.Memory = out_of_memory_text
pack_fault_text pack.TooLarge = codes "the pack is too large"
pack_fault_text pack.Other = codes "the packer failed"

abbrev pub index_fault_text : IndexFault → List ℕ
index_fault_text index.Memory = out_of_memory_text
index_fault_text (index.Bad line) = codes "line " ++ decimal line ++ codes " of the pack is wrong"
index_fault_text index.Other = codes "the indexer failed"
