-- Consequences of the definitions of a world.
use Rattle.std.specs.Prelude.{◌≡◌, ◌≢◌, ⊤, ℕ, false, List, ◌++◌, All, IfSome}
use Rattle.gname.specs.Ids.{Id}
use Rattle.gdag.specs.Reach.{Grows}
use Rattle.grefs.specs.RefLists.{IsRefs}
use Rattle.gclientrepo.specs.Repos.{RepoState}
use Rattle.ganswer.specs.Servers.{Server}
use Rattle.gsession.specs.Keeping.{KeepsGraph, KeepsOn}
use Rattle.gsession.specs.Sessions.{IsSession}
use Rattle.gworld.specs.Faults.{not_kept}
use Rattle.gworld.specs.KeepingWorlds.{KeptPromises, KeptWorld}
use Rattle.gworld.specs.Promises.{AreCommonsShared, AreRefsConnected, AreRequestsFew, HonestPromises, Promises}
use Rattle.gworld.specs.Promises.{SettlesUpToDate, SharesCommons}
use Rattle.gworld.specs.Runs.{Run, RunWith}
use Rattle.gworld.specs.Sound.{AreEndsConnected, IsSound}
use Rattle.gworld.specs.Events.{Step}
use Rattle.gworld.specs.Starts.{CanStart}
use Rattle.gworld.specs.Worlds.{PackTools, WorldState, new_world}
use Rattle.gscenario.specs.declared.event.Event.{Event}
use Rattle.gscenario.specs.declared.event.Event.TheVariants as event
use Rattle.gworld.specs.declared.outcome.Outcome.{Outcome}
use Rattle.gworld.specs.declared.outcome.Outcome.TheVariants as outcomes

-- each step from a sound world leads to a sound world and keeps its promises, if `AreEndsConnected` holds before and
-- after the step
abbrev pub StepsKeep : {A : Type 0} → PackTools A → Type 0
StepsKeep {A} tools =
    (w new : WorldState A) (event : Event A) (outcome : Outcome) → AreEndsConnected w → AreEndsConnected new
    → IsSound tools w → Step tools w event outcome new
    → IsSound tools new × Promises tools w event outcome new

-- Invariants that the types of server, repository and session guarantee: refs are sorted by name, and the session is
-- valid. The definition of a step does not imply these invariants.
pub record AreListed {A : Type 0} (w : WorldState A) : Type 0 where
  pub server : IsRefs w.server.refs
  pub client : IsRefs w.repo.refs
  pub session : IfSome w.session IsSession

-- each step preserves `AreEndsConnected`, if afterwards the refs are sorted and the session is valid
abbrev pub EndsStayConnected : {A : Type 0} → PackTools A → Type 0
EndsStayConnected {A} tools =
    (w new : WorldState A) (event : Event A) (outcome : Outcome) → AreEndsConnected w → AreListed new
    → Step tools w event outcome new → AreEndsConnected new

-- a step that leads to a world with sorted refs and a valid session
pub record StepsListed {A : Type 0} (tools : PackTools A) (w : WorldState A) (event : Event A) (outcome : Outcome)
    (new : WorldState A) : Type 0 where
  pub step : Step tools w event outcome new
  pub listed : AreListed new

-- a run of steps with the property `StepsListed` keeps its promises and leads to a sound world that satisfies
-- `AreEndsConnected`, if the run starts in such a world
abbrev pub RunsKeepPromises : {A : Type 0} → PackTools A → Type 0
RunsKeepPromises {A} tools =
    (w new : WorldState A) (events : List (Event A)) (outcomes : List Outcome) → AreEndsConnected w → IsSound tools w
    → RunWith (StepsListed tools) w events outcomes new
    → RunWith (Promises tools) w events outcomes new × AreEndsConnected new × IsSound tools new

-- a new world is sound
abbrev pub NewWorldsAreSound : {A : Type 0} → PackTools A → Type 0
NewWorldsAreSound {A} tools =
    (server : Server A) (repo : RepoState A) → CanStart server repo → IsSound tools (new_world server repo)

-- if each step keeps its promises, the events and their outcomes form a run (`Run`)
abbrev pub PromisesAreRuns : {A : Type 0} → PackTools A → Type 0
PromisesAreRuns {A} tools =
    (w new : WorldState A) (events : List (Event A)) (outcomes : List Outcome)
    → RunWith (Promises tools) w events outcomes new → Run tools w events outcomes new

-- if the client's refs are connected before a run, they are connected afterwards
abbrev pub RefsStayConnected : {A : Type 0} → PackTools A → Type 0
RefsStayConnected {A} tools =
    (w new : WorldState A) (events : List (Event A)) (outcomes : List Outcome) → AreRefsConnected w
    → RunWith (Promises tools) w events outcomes new → AreRefsConnected new

-- If the session made at most N + 1 requests for objects before a run, this remains true after the run. N is the number
-- of ids that the session's tips reach.
abbrev pub RequestsStayFew : {A : Type 0} → PackTools A → Type 0
RequestsStayFew {A} tools =
    (w new : WorldState A) (events : List (Event A)) (outcomes : List Outcome) → AreRequestsFew w
    → RunWith (Promises tools) w events outcomes new → AreRequestsFew new

-- ---- all worlds of a run

-- a run passes through the world `v` after the events `front` and before the events `rest`
pub record LeadsThrough {A S : Type 0} (P : S → Event A → Outcome → S → Type 0) (w : S)
    (front rest : List (Event A)) (outcomes : List Outcome) (new v : S) : Type 0 where
  pub early : List Outcome
  pub late : List Outcome
  pub told : outcomes ≡ early ++ late
  pub before : RunWith P w front early v
  pub after : RunWith P v rest late new

-- a prefix of a run is a run, and the remaining events lead from the prefix's last world to the last world of the whole
-- run
abbrev pub FrontsAreRuns : {A : Type 0} → PackTools A → Type 0
FrontsAreRuns {A} tools =
    (w new : WorldState A) (front rest : List (Event A)) (outcomes : List Outcome)
    → Run tools w (front ++ rest) outcomes new
    → (v : WorldState A) × LeadsThrough (Step tools) w front rest outcomes new v

-- if all steps of a run keep their promises, each prefix is a run whose steps keep their promises
abbrev pub FrontsKeepPromises : {A : Type 0} → PackTools A → Type 0
FrontsKeepPromises {A} tools =
    (w new : WorldState A) (front rest : List (Event A)) (outcomes : List Outcome)
    → RunWith (Promises tools) w (front ++ rest) outcomes new
    → (v : WorldState A) × LeadsThrough (Promises tools) w front rest outcomes new v

-- if the client's refs are connected before a run, they are connected in every world of the run
abbrev pub RefsAreAlwaysConnected : {A : Type 0} → PackTools A → Type 0
RefsAreAlwaysConnected {A} tools =
    (w new v : WorldState A) (front rest : List (Event A)) (outcomes : List Outcome) → AreRefsConnected w
    → LeadsThrough (Promises tools) w front rest outcomes new v → AreRefsConnected v

-- ---- nothing is lost

-- over any run the graphs of the server and of the client only gain objects
abbrev pub GraphsOnlyGrow : {A : Type 0} → PackTools A → Type 0
GraphsOnlyGrow {A} tools =
    (w new : WorldState A) (events : List (Event A)) (outcomes : List Outcome) → Run tools w events outcomes new
    → Grows w.server.graph.entries new.server.graph.entries × Grows w.repo.graph.entries new.repo.graph.entries

-- every event except `Settle` and `ClientRef`
abbrev pub LeavesClientRefs : {A : Type 0} → Event A → Type 0
LeavesClientRefs event.Settle = ⊥
LeavesClientRefs (event.ClientRef name id) = ⊥
LeavesClientRefs _ = ⊤

-- every event except `ServerRef`
abbrev pub LeavesServerRefs : {A : Type 0} → Event A → Type 0
LeavesServerRefs (event.ServerRef name id) = ⊥
LeavesServerRefs _ = ⊤

-- every event except `ServerAdd` and `ServerRef`
abbrev pub LeavesServer : {A : Type 0} → Event A → Type 0
LeavesServer (event.ServerAdd entry) = ⊥
LeavesServer (event.ServerRef name id) = ⊥
LeavesServer _ = ⊤

-- a run leaves the client's refs, the server's refs or the server unchanged if no event of the run may change them
pub record OthersLeaveRefs {A : Type 0} (tools : PackTools A) : Type 0 where
  pub client : (w new : WorldState A) (events : List (Event A)) (outcomes : List Outcome) →
      All LeavesClientRefs events → Run tools w events outcomes new → new.repo.refs ≡ w.repo.refs
  pub server_refs : (w new : WorldState A) (events : List (Event A)) (outcomes : List Outcome) →
      All LeavesServerRefs events → Run tools w events outcomes new → new.server.refs ≡ w.server.refs
  pub server : (w new : WorldState A) (events : List (Event A)) (outcomes : List Outcome) →
      All LeavesServer events → Run tools w events outcomes new → new.server ≡ w.server

-- an event that fails leaves the server and the client's repository unchanged
abbrev pub RefusalsLeaveBothEnds : {A : Type 0} → PackTools A → Type 0
RefusalsLeaveBothEnds {A} tools =
    (w new : WorldState A) (event : Event A) (number : ℕ) → Step tools w event (outcomes.Fault number) new
    → (new.server ≡ w.server) × (new.repo ≡ w.repo)

-- ---- runs without forged bytes

-- the event forges no bytes
abbrev pub IsNoForge : {A : Type 0} → Event A → Type 0
IsNoForge (event.Forge bytes) = ⊥
IsNoForge _ = ⊤

-- if no bytes were forged and both ends hold each common id, both facts remain true after events that forge no bytes
abbrev pub CommonsStayShared : {A : Type 0} → PackTools A → Type 0
CommonsStayShared {A} tools =
    (w new : WorldState A) (events : List (Event A)) (outcomes : List Outcome) → w.forged ≡ false
    → AreCommonsShared w → All IsNoForge events → RunWith (Promises tools) w events outcomes new
    → (new.forged ≡ false) × AreCommonsShared new

-- the promises of a step except `lists` and `ends`; the promises `commons` and `honest` hold unconditionally
pub record KeepsAll {A : Type 0} (tools : PackTools A) (w : WorldState A) (event : Event A) (outcome : Outcome)
    (new : WorldState A) : Type 0 where
  pub step : Step tools w event outcome new
  pub refs : AreRefsConnected new
  pub commons : IfSome new.session (SharesCommons new)
  pub up_to_date : SettlesUpToDate w event outcome new
  pub few : AreRequestsFew new
  pub honest : HonestPromises tools w event outcome new

-- if no bytes are forged before or during a run, each step of the run keeps all promises
abbrev pub HonestRunsKeepAll : {A : Type 0} → PackTools A → Type 0
HonestRunsKeepAll {A} tools =
    (w new : WorldState A) (events : List (Event A)) (outcomes : List Outcome) → w.forged ≡ false
    → All IsNoForge events → RunWith (Promises tools) w events outcomes new
    → RunWith (KeepsAll tools) w events outcomes new

-- ---- worlds with an indexer that has a store

-- in a run without an event that fails with fault 98, each step keeps its promises
abbrev pub KeptRunsKeepPromises : {A I : Type 0} → (P : Type 0) → PackTools A → (I → Id → Type 0) → Type 0
KeptRunsKeepPromises {A} {I} P tools keeps =
    (s new : KeptWorld A P I) (events : List (Event A)) (told : List Outcome)
    → All (λ outcome. outcome ≢ outcomes.Fault not_kept) told
    → RunWith (KeptPromises tools keeps) s events told new → RunWith (Promises tools) s.world events told new.world

-- After a run the indexer still keeps all that it kept before, and it keeps each object that the client's graph gained.
abbrev pub KeptRunsKeepOn : {A I : Type 0} → (P : Type 0) → PackTools A → (I → Id → Type 0) → Type 0
KeptRunsKeepOn {A} {I} P tools keeps =
    (s new : KeptWorld A P I) (events : List (Event A)) (outcomes : List Outcome)
    → RunWith (KeptPromises tools keeps) s events outcomes new
    → KeepsOn (keeps s.indexer) (keeps new.indexer) s.world.repo.graph.entries new.world.repo.graph.entries

-- if the indexer kept each object of the client's graph before a run, it does so in each world of the run
abbrev pub KeptRunsAlwaysKeep : {A I : Type 0} → (P : Type 0) → PackTools A → (I → Id → Type 0) → Type 0
KeptRunsAlwaysKeep {A} {I} P tools keeps =
    (s new v : KeptWorld A P I) (front rest : List (Event A)) (outcomes : List Outcome)
    → KeepsGraph (keeps s.indexer) s.world.repo.graph.entries
    → LeadsThrough (KeptPromises tools keeps) s front rest outcomes new v
    → KeepsGraph (keeps v.indexer) v.world.repo.graph.entries

-- each prefix of a run is a run
abbrev pub KeptFrontsAreRuns : {A I : Type 0} → (P : Type 0) → PackTools A → (I → Id → Type 0) → Type 0
KeptFrontsAreRuns {A} {I} P tools keeps =
    (s new : KeptWorld A P I) (front rest : List (Event A)) (outcomes : List Outcome)
    → RunWith (KeptPromises tools keeps) s (front ++ rest) outcomes new
    → (v : KeptWorld A P I) × LeadsThrough (KeptPromises tools keeps) s front rest outcomes new v
