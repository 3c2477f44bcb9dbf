-- The effect of a simulation: the program reads the files in order, executes the events, and prints their outcomes.
use Rattle.std.specs.Prelude.{◌≡◌, ◌⊎◌, ℕ, List, Result, Ok, Err}
use Rattle.gpkt.specs.Packets.{Bytes}
use Rattle.ganswer.specs.Servers.{Server}
use Rattle.gcmd.specs.Fetching.{NamesClient, RefusesClient, plain_index_fails, plain_indexes}
use Rattle.gcmd.specs.Outputs.{BreaksOff}
use Rattle.gcmd.specs.Programs.{Prints}
use Rattle.gcmd.specs.Serving.{NamesServer, RefusesFile, plain_pack_fails, plain_packs}
use Rattle.gcmd.specs.declared.fault.ProgramFault.TheVariants as program
use Rattle.gpkt.specs.Sending.{Output, IsUnwritten, Sends}
use Rattle.gclientrepo.specs.Repos.{RepoState}
use Rattle.gscenario.specs.ScenarioText.{IsScenario, Refuses}
use Rattle.gscenario.specs.declared.event.Event.{Event}
use Rattle.gworld.specs.Promises.{Promises}
use Rattle.gworld.specs.Runs.{NeedsMemory, RunWith, RunsFront}
use Rattle.gworld.specs.Starts.{CanStart, CannotStart}
use Rattle.gworld.specs.Worlds.{PackTools, WorldState, new_world, tools_of}
use Rattle.gworld.specs.declared.outcome.Outcome.{Outcome}
use Rattle.gsimulate.specs.Faults.{simulation_fault_line}
use Rattle.gsimulate.specs.Lines.{simulated_text}
use Rattle.gsimulate.specs.declared.fault.SimulationFault.{SimulationFault}
use Rattle.gsimulate.specs.declared.fault.SimulationFault.TheVariants as faults
use Rattle.gsimulate.specs.declared.simulate.Simulation.{Simulation}

-- the ending of a simulation: success or a fault
abbrev pub Ending : Type 0 → Type 0
Ending A = Result (Unit {0}) (SimulationFault A)

-- the packer and the indexer of plain packs
abbrev pub plain_tools : (A : Type 0) → PackTools A
plain_tools A = tools_of plain_packs plain_pack_fails plain_indexes (plain_index_fails A)

-- ---- files

-- the server file describes a server that satisfies the predicate `IsSo`
pub record HasServer {A : Type 0} (files : Simulation) (IsSo : Server A → Type 0) : Type 0 where
  pub server : Server A
  pub names : NamesServer files.server.now server
  pub so : IsSo server

-- the server file and the client file describe a server and a client's repository that satisfy `IsSo`
pub record HasEnds {A : Type 0} (files : Simulation) (IsSo : Server A → RepoState A → Type 0) : Type 0 where
  pub server : Server A
  pub repo : RepoState A
  pub names : NamesServer files.server.now server
  pub opens : NamesClient files.client.now repo
  pub so : IsSo server repo

-- the three files describe a server, a client's repository and events that satisfy the predicate `IsSo`
pub record HasEvents {A : Type 0} (files : Simulation) (IsSo : Server A → RepoState A → List (Event A) → Type 0)
    : Type 0 where
  pub server : Server A
  pub repo : RepoState A
  pub events : List (Event A)
  pub names : NamesServer files.server.now server
  pub opens : NamesClient files.client.now repo
  pub reads : IsScenario files.scenario.now events
  pub so : IsSo server repo events

-- the server and the client can form a world, and this world and the events satisfy the predicate `IsSo`
abbrev pub CanHappen : {A : Type 0} → (WorldState A → List (Event A) → Type 0)
    → Server A → RepoState A → List (Event A) → Type 0
CanHappen IsSo server repo events = CanStart server repo × IsSo (new_world server repo) events

abbrev pub HasWorld : {A : Type 0} → Simulation → (WorldState A → List (Event A) → Type 0) → Type 0
HasWorld files IsSo = HasEvents files (CanHappen IsSo)

-- the reasons why no event happens: the server file, the client file or the scenario is rejected, or server and client
-- can't form a world
abbrev pub CannotBegin : {A : Type 0} → Simulation → SimulationFault A → Type 0
CannotBegin {A} files (faults.Program fault) =
    RefusesFile {A = A} files.server.now fault
    ⊎ HasServer {A = A} files (λ server. RefusesClient files.client.now fault)
CannotBegin {A} files (faults.Scenario fault) =
    HasEnds {A = A} files (λ server repo. Refuses A files.scenario.now fault)
CannotBegin {A} files (faults.World fault) =
    HasEvents {A = A} files (λ server repo events. CannotStart server repo fault)
CannotBegin files faults.Memory = ⊥

-- ---- output

-- the text is written and flushed, the output fails, or memory for the text runs out
abbrev pub Shows : {A : Type 0} → Bytes → Output → Ending A → Type 0
Shows text output (Ok done) = Sends output text
Shows text output (Err (faults.Program program.WriteFailed)) = BreaksOff output text
Shows text output (Err (faults.Program program.Memory)) = IsUnwritten output
Shows text output (Err _) = ⊥

-- all events happened, each step kept its promises, and `ending` is the result of printing the outcomes and the
-- client's final refs
pub record IsRun {A : Type 0} (output : Output) (ending : Ending A) (w : WorldState A) (events : List (Event A))
    : Type 0 where
  pub outcomes : List Outcome
  pub new : WorldState A
  pub run : RunWith (Promises (plain_tools A)) w events outcomes new
  pub shows : Shows (simulated_text outcomes new.repo.refs) output ending

-- memory ran out before an event, and all earlier events happened
pub record IsStopped {A : Type 0} (w : WorldState A) (events : List (Event A)) : Type 0 where
  pub outcomes : List Outcome
  pub new : WorldState A
  pub front : RunsFront (Promises (plain_tools A)) NeedsMemory w events outcomes new

-- ---- simulations

-- the fault of a simulation that ends before it prints outcomes: memory for an event runs out, or no event can happen
abbrev pub StopsBefore : {A : Type 0} → Simulation → SimulationFault A → Type 0
StopsBefore {A} files faults.Memory = HasWorld {A = A} files IsStopped
StopsBefore files fault = CannotBegin files fault

pub record IsNotRun {A : Type 0} (files : Simulation) (output : Output) (ending : Ending A) : Type 0 where
  pub fault : SimulationFault A
  pub stops : StopsBefore files fault
  pub met : ending ≡ Err fault
  pub unwritten : IsUnwritten output

abbrev pub Simulates : {A : Type 0} → Simulation → Output → Ending A → Type 0
Simulates {A} files output ending = HasWorld {A = A} files (IsRun output ending) ⊎ IsNotRun files output ending

-- after success no fault is printed, and the status is 0; after a fault the line that reports the fault is printed, and
-- the status is 1
abbrev pub ExitsWith : {A : Type 0} → Ending A → Output → ℕ → Type 0
ExitsWith (Ok done) errors status = IsUnwritten errors × (status ≡ 0)
ExitsWith (Err fault) errors status = Prints errors (simulation_fault_line fault) × (status ≡ 1)

-- a simulation has an ending, prints the line that reports a fault, if any, and exits with the status for the ending
pub record Runs (A : Type 0) (files : Simulation) (output errors : Output) (status : ℕ) : Type 0 where
  pub ending : Ending A
  pub simulates : Simulates files output ending
  pub exits : ExitsWith ending errors status
