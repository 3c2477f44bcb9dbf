-- The table of faults, with the number, the name and the text of each fault.
use Rattle.std.specs.Prelude.{ℕ, List, codes}
use Rattle.gname.specs.Faults.{FaultRow, name_fault_row, name_fault_text}
use Rattle.gname.specs.declared.faults.NameFault.TheVariants as name
use Rattle.grefs.specs.declared.refspec.fault.SpecFault.{SpecFault}
use Rattle.grefs.specs.declared.refspec.fault.SpecFault.TheVariants.{BadSpec, Memory}

-- the number and the name of each fault of parsing a refspec
abbrev pub spec_fault_row : SpecFault → FaultRow
spec_fault_row BadSpec = (87, codes "BadSpec")
spec_fault_row Memory = name_fault_row name.Memory

abbrev pub spec_fault_text : SpecFault → List ℕ
spec_fault_text BadSpec = codes "not a refspec"
spec_fault_text Memory = name_fault_text name.Memory
