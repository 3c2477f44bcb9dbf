-- Runs: sequences of events, each with its outcome.
use Rattle.std.specs.Prelude.{◌≡◌, ◌⊎◌, ⊤, true, List, [], ◌∷◌, ◌++◌, slice_get, IsSome, Some}
use Rattle.gdag.specs.Laws.{AgreesWith}
use Rattle.gsession.specs.Requesting.{is_due}
use Rattle.gsession.specs.Sessions.{SessionState}
use Rattle.gworld.specs.Events.{Step, waiting_session}
use Rattle.gworld.specs.Worlds.{PackTools, WorldState}
use Rattle.gscenario.specs.declared.event.Event.{Event}
use Rattle.gscenario.specs.declared.event.Event.TheVariants as event
use Rattle.gworld.specs.declared.fault.RunFault.{RunFault}
use Rattle.gworld.specs.declared.fault.RunFault.TheVariants as run
use Rattle.gworld.specs.declared.outcome.Outcome.{Outcome}

-- The events happen one after the other with these outcomes, and each step has the property `P`. The states are worlds,
-- or worlds with an indexer.
abbrev pub RunWith : {A S : Type 0} → (S → Event A → Outcome → S → Type 0) → S → List (Event A) → List Outcome → S
    → Type 0
RunWith P s [] [] new = new ≡ s
RunWith {A} {S} P s (event ∷ events) (outcome ∷ outcomes) new =
    (next : S) × P s event outcome next × RunWith P next events outcomes new
RunWith P s [] (outcome ∷ outcomes) new = ⊥
RunWith P s (event ∷ events) [] new = ⊥

-- the events happen one after the other with these outcomes
abbrev pub Run : {A : Type 0} → PackTools A → WorldState A → List (Event A) → List Outcome → WorldState A → Type 0
Run tools w events outcomes new = RunWith (Step tools) w events outcomes new

-- The event needs memory for a list of the world or for a buffer. An event that fails at once with fault 83
-- (`NoOpenRequest`), 90 (`Disagree`) or 93 (no such index) needs no memory.
abbrev pub NeedsMemory : {A : Type 0} → WorldState A → Event A → Type 0
NeedsMemory w (event.Begin specs) = ⊥
NeedsMemory {A} w event.Ask = (s : SessionState A) × (w.session ≡ Some s) × (is_due s.stage s.pending ≡ true)
NeedsMemory w (event.Serve number) = IsSome (slice_get w.sent number)
NeedsMemory w (event.Deliver number count) = IsSome (slice_get w.kept number) × IsSome (waiting_session w.session)
NeedsMemory w (event.Forge bytes) = IsSome (waiting_session w.session)
NeedsMemory w (event.StrangeRequest bytes) = ⊤
NeedsMemory w event.Settle = ⊥
NeedsMemory w event.RestartClient = ⊥
NeedsMemory w event.RestartServer = ⊥
NeedsMemory w (event.ServerAdd entry) = AgreesWith w.repo.graph.entries entry
NeedsMemory w (event.ServerRef name id) = ⊤
NeedsMemory w (event.ClientAdd entry) = AgreesWith w.server.graph.entries entry
NeedsMemory w (event.ClientRef name id) = ⊤

-- A run stopped for lack of memory after the events `front`, which may be empty. The next event did not begin, because
-- it needs memory (`needs`), or because it is the first event and there is not enough memory for the list of outcomes.
pub record RunsFront {A S : Type 0} (P : S → Event A → Outcome → S → Type 0) (needs : S → Event A → Type 0) (s : S)
    (events : List (Event A)) (outcomes : List Outcome) (new : S) : Type 0 where
  pub front : List (Event A)
  pub next : Event A
  pub rest : List (Event A)
  pub parts : events ≡ front ++ next ∷ rest
  pub run : RunWith P s front outcomes new
  pub memory : (outcomes ≡ []) ⊎ needs new next

-- the outcomes of the events that were completed before the run stopped
abbrev pub outcomes_before : {A : Type 0} → RunFault A → List Outcome
outcomes_before (run.Memory outcomes) = outcomes.items
