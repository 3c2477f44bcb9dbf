-- The tables of faults, with the number, the name and the text of each fault.
use Rattle.std.specs.Fmt.{decimal}
use Rattle.std.specs.Prelude.{ℕ, List, ◌++◌, codes}
use Rattle.gname.specs.Faults.{FaultRow, out_of_memory, out_of_memory_text}
use Rattle.gdag.specs.Faults.{graph_fault_row, graph_fault_text}
use Rattle.gdag.specs.declared.fault.GraphFault.TheVariants as graph
use Rattle.ggraph.specs.declared.fault.LoadFault.{LoadFault}
use Rattle.ggraph.specs.declared.fault.SaveFault.{SaveFault}
use Rattle.ggraph.specs.declared.fault.LoadFault.TheVariants as load
use Rattle.ggraph.specs.declared.fault.SaveFault.TheVariants as save

-- the number and the name of each fault of loading a repository text
abbrev pub load_fault_row : LoadFault → FaultRow
load_fault_row (load.Text line) = (67, codes "Text")
load_fault_row (load.ParentLater line) = (68, codes "ParentLater")
load_fault_row load.Memory = out_of_memory

-- the number and the name of each fault of saving a repository
abbrev pub save_fault_row : SaveFault → FaultRow
save_fault_row (save.OtherFormat id) = graph_fault_row (graph.OtherFormat id)
save_fault_row save.Memory = out_of_memory

-- the text of each fault of loading, as `Display` writes it
abbrev pub load_fault_text : LoadFault → List ℕ
load_fault_text (load.Text line) = codes "line " ++ decimal line ++ codes " of the repository text is wrong"
load_fault_text (load.ParentLater line) =
    codes "line " ++ decimal line ++ codes " of the repository text names a parent that comes later"
load_fault_text load.Memory = out_of_memory_text

abbrev pub save_fault_text : SaveFault → List ℕ
save_fault_text (save.OtherFormat id) = graph_fault_text (graph.OtherFormat id)
save_fault_text save.Memory = out_of_memory_text
