-- The table of faults, with the number, the name and the text of each fault.
use Rattle.std.specs.Prelude.{ℕ, List, codes}
use Rattle.gname.specs.Faults.{FaultRow, out_of_memory, out_of_memory_text}
use Rattle.gdag.specs.declared.fault.GraphFault.{GraphFault}
use Rattle.gdag.specs.declared.fault.GraphFault.TheVariants as graph

-- the number and the name of each fault of a call on a graph
abbrev pub graph_fault_row : GraphFault → FaultRow
graph_fault_row (graph.Conflict id) = (60, codes "Conflict")
graph_fault_row graph.TooMany = (61, codes "TooMany")
graph_fault_row graph.TooManyParents = (62, codes "TooManyParents")
graph_fault_row graph.TagShape = (63, codes "TagShape")
graph_fault_row graph.Memory = out_of_memory
graph_fault_row (graph.OtherFormat id) = (75, codes "OtherFormat")

-- the text of each fault, as `Display` writes it
abbrev pub graph_fault_text : GraphFault → List ℕ
graph_fault_text (graph.OtherFormat id) = codes "an id is of another object format"
graph_fault_text (graph.Conflict id) = codes "another object has this id"
graph_fault_text graph.TooMany = codes "too many objects"
graph_fault_text graph.TooManyParents = codes "too many parents"
graph_fault_text graph.TagShape = codes "a tag has one parent"
graph_fault_text graph.Memory = out_of_memory_text
