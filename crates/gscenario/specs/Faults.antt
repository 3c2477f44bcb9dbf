-- The table of faults: the number, the name and the text of each fault.
use Rattle.std.specs.Fmt.{decimal}
use Rattle.std.specs.Prelude.{ℕ, List, ◌++◌, codes}
use Rattle.gname.specs.Faults.{FaultRow, out_of_memory_text}
use Rattle.gscenario.specs.declared.fault.ScenarioFault.{ScenarioFault}
use Rattle.gscenario.specs.declared.fault.ScenarioFault.TheVariants as fault

-- the number and the name of each reason to reject a text
abbrev pub scenario_fault_row : ScenarioFault → FaultRow
scenario_fault_row (fault.Scenario line) = (92, codes "Scenario")
scenario_fault_row fault.Memory = (91, codes "Memory")

abbrev pub scenario_fault_text : ScenarioFault → List ℕ
scenario_fault_text (fault.Scenario line) =
    codes "line " ++ decimal line ++ codes " of the scenario is that of no event, or does not end"
scenario_fault_text fault.Memory = out_of_memory_text
