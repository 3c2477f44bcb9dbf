-- Definitions for private functions and proofs: the files, and the world that they describe.
use Rattle.std.specs.Prelude.{◌≡◌, List}
use Rattle.ganswer.specs.Servers.{Server}
use Rattle.gclientrepo.specs.Repos.{RepoState}
use Rattle.gcmd.specs.Fetching.{NamesClient}
use Rattle.gcmd.specs.Serving.{NamesServer}
use Rattle.gscenario.specs.ScenarioText.{IsScenario}
use Rattle.gscenario.specs.declared.event.Event.{Event}
use Rattle.gworld.specs.Worlds.{WorldOf}
use Rattle.gsimulate.specs.declared.simulate.Simulation.{Simulation}
use Rattle.gsimulate.specs.Simulating.{HasWorld}

-- the files describe this server and this client's repository
abbrev pub AreEnds : {A : Type 0} → Simulation → Server A → RepoState A → Type 0
AreEnds files server repo = NamesServer files.server.now server × NamesClient files.client.now repo

-- the files describe this server, this client's repository and these events
abbrev pub AreRead : {A : Type 0} → Simulation → Server A → RepoState A → List (Event A) → Type 0
AreRead files server repo events = AreEnds files server repo × IsScenario files.scenario.now events

-- the files describe the two repositories of this new world, and these events
abbrev pub BeginsWith : {A K : Type 0} → Simulation → WorldOf A K → List (Event A) → Type 0
BeginsWith {A} files begun events =
    HasWorld {A = A} files (λ w happening. (begun.world ≡ w) × (events ≡ happening))
