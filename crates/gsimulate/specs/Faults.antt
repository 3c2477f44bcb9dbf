-- The table of faults of a simulation, with the printed line of each fault.
use Rattle.std.specs.Prelude.{ℕ, ◌++◌, codes}
use Rattle.std.specs.Fmt.{decimal}
use Rattle.gname.specs.Ids.{Id, id_text}
use Rattle.gname.specs.Faults.{FaultRow}
use Rattle.gpkt.specs.Packets.{Bytes}
use Rattle.gcmd.specs.Faults.{printed_of, program_fault_text}
use Rattle.gcmd.specs.Printing.{fault_line}
use Rattle.gscenario.specs.Faults.{scenario_fault_row, scenario_fault_text}
use Rattle.gscenario.specs.declared.fault.ScenarioFault.{ScenarioFault}
use Rattle.gscenario.specs.declared.fault.ScenarioFault.TheVariants as scenario
use Rattle.gworld.specs.Faults.{world_fault_row, world_fault_text}
use Rattle.gworld.specs.declared.fault.WorldFault.{WorldFault}
use Rattle.gworld.specs.declared.fault.WorldFault.TheVariants as world
use Rattle.gsimulate.specs.declared.fault.SimulationFault.{SimulationFault}
use Rattle.gsimulate.specs.declared.fault.SimulationFault.TheVariants as faults

-- the number and the name of a simulation's fault
abbrev pub simulation_fault_row : {A : Type 0} → SimulationFault A → FaultRow
simulation_fault_row (faults.Program fault) = ((printed_of fault).number, (printed_of fault).name)
simulation_fault_row (faults.Scenario fault) = scenario_fault_row fault
simulation_fault_row (faults.World fault) = world_fault_row fault
simulation_fault_row faults.Memory = scenario_fault_row scenario.Memory

-- ---- lines

-- the line that reports out of memory
abbrev pub memory_line : Bytes
memory_line = codes "gitv2: fault 91 Memory\n"

-- the line that reports a malformed line of the scenario
abbrev pub wrong_line : ℕ → Bytes
wrong_line line = codes "gitv2: fault 92 Scenario line " ++ (decimal line ++ codes "\n")

abbrev pub scenario_line : ScenarioFault → Bytes
scenario_line (scenario.Scenario line) = wrong_line line
scenario_line scenario.Memory = memory_line

-- the line for an id under which server and client hold different objects
abbrev pub disagreement : Id → Bytes
disagreement id = codes "gitv2: fault 90 Disagree " ++ (id_text id ++ codes "\n")

-- the line for an id that the client holds and its indexer does not keep
abbrev pub unkept : Id → Bytes
unkept id = codes "gitv2: fault 98 NotKept " ++ (id_text id ++ codes "\n")

abbrev pub world_line : WorldFault → Bytes
world_line (world.Disagree id) = disagreement id
world_line (world.NotKept id) = unkept id
world_line world.TwoFormats = codes "gitv2: fault 97 TwoFormats\n"

abbrev pub simulation_fault_line : {A : Type 0} → SimulationFault A → Bytes
simulation_fault_line (faults.Program fault) = fault_line fault
simulation_fault_line (faults.Scenario fault) = scenario_line fault
simulation_fault_line (faults.World fault) = world_line fault
simulation_fault_line faults.Memory = memory_line

-- ---- texts

abbrev pub simulation_fault_text : {A : Type 0} → SimulationFault A → Bytes
simulation_fault_text (faults.Program fault) = program_fault_text fault
simulation_fault_text (faults.Scenario fault) = scenario_fault_text fault
simulation_fault_text (faults.World fault) = world_fault_text fault
simulation_fault_text faults.Memory = scenario_fault_text scenario.Memory
