-- Worlds whose client keeps all objects of its repository in the store of an indexer.
use Rattle.std.specs.Prelude.{◌≡◌, ◌⊎◌, ⊤, List, ◌∷◌, ◌++◌, All, Result, Ok, Err}
use Rattle.gname.specs.Ids.{Id}
use Rattle.gobject.specs.declared.node.Entry.{Entry}
use Rattle.gclientrepo.specs.Repos.{RepoState}
use Rattle.ganswer.specs.Servers.{Server}
use Rattle.gsession.specs.Keeping.{KeepsGraph, KeepsOn}
use Rattle.gworld.specs.Events.{IsRefused}
use Rattle.gworld.specs.Faults.{not_kept}
use Rattle.gworld.specs.Promises.{Promises}
use Rattle.gworld.specs.Runs.{NeedsMemory}
use Rattle.gworld.specs.Starts.{CanStart, CannotStart}
use Rattle.gworld.specs.Worlds.{PackTools, WorldState, new_world}
use Rattle.gworld.specs.declared.fault.WorldFault.{WorldFault}
use Rattle.gworld.specs.declared.fault.WorldFault.TheVariants as world
use Rattle.gscenario.specs.declared.event.Event.{Event}
use Rattle.gscenario.specs.declared.event.Event.TheVariants as event
use Rattle.gworld.specs.declared.outcome.Outcome.{Outcome}

-- a world, its packer and its indexer
pub record KeptWorld (A P I : Type 0) : Type 0 where
  pub packer : P
  pub indexer : I
  pub world : WorldState A

abbrev pub kept_world : {A P I : Type 0} → P → I → WorldState A → KeptWorld A P I
kept_world packer indexer w = record { packer = packer; indexer = indexer; world = w }

-- ---- the start of a world

-- the first id of the graph, in insertion order, that is not kept
pub record IsFirstUnkept {A : Type 0} (keeps : Id → Type 0) (g : List (Entry A)) (id : Id) : Type 0 where
  pub front : List (Entry A)
  pub entry : Entry A
  pub back : List (Entry A)
  pub parts : g ≡ front ++ entry ∷ back
  pub kept : All (λ e. keeps e.id) front
  pub unkept : ¬ (keeps entry.id)
  pub is : id ≡ entry.id

-- the result of making a world: a new world of exactly these parts, the reason why server and repository can't form a
-- world, or the first id of the repository that the indexer does not keep
abbrev pub StartsKept : {A P I : Type 0} → (I → Id → Type 0) → Server A → RepoState A → P → I
    → Result (KeptWorld A P I) WorldFault → Type 0
StartsKept keeps server repo packer indexer (Ok made) =
    (made ≡ kept_world packer indexer (new_world server repo))
    × CanStart server repo × KeepsGraph (keeps indexer) repo.graph.entries
StartsKept keeps server repo packer indexer (Err (world.NotKept id)) =
    CanStart server repo × IsFirstUnkept (keeps indexer) repo.graph.entries id
StartsKept keeps server repo packer indexer (Err fault) = CannotStart server repo fault

-- ---- the steps of a run

-- the event is not `ClientAdd`, or the id of its object is kept
abbrev pub AddsKept : {A : Type 0} → (Id → Type 0) → Event A → Type 0
AddsKept keeps (event.ClientAdd entry) = keeps entry.id
AddsKept keeps _ = ⊤

-- the event is `ClientAdd`, and the id of its object is not kept
abbrev pub AddsUnkept : {A : Type 0} → (Id → Type 0) → Event A → Type 0
AddsUnkept keeps (event.ClientAdd entry) = ¬ (keeps entry.id)
AddsUnkept keeps _ = ⊥

-- The event is `ClientAdd`, and the id of its object is not kept. The event fails with fault 98, and the world is
-- unchanged.
abbrev pub RefusesUnkept : {A : Type 0} → (Id → Type 0) → WorldState A → Event A → Outcome → WorldState A → Type 0
RefusesUnkept keeps w event outcome new = AddsUnkept keeps event × IsRefused not_kept w outcome new

-- The event `Deliver` or `Forge` leaves an indexer that keeps each object that the client's graph gained. Any other
-- event leaves the indexer unchanged.
abbrev pub KeepsAt : {A I : Type 0} → (I → Id → Type 0) → Event A → I → I → List (Entry A) → List (Entry A) → Type 0
KeepsAt keeps (event.Deliver number count) before after old new = KeepsOn (keeps before) (keeps after) old new
KeepsAt keeps (event.Forge bytes) before after old new = KeepsOn (keeps before) (keeps after) old new
KeepsAt keeps _ before after old new = after ≡ before

-- A step that keeps its promises. If the event is `ClientAdd`, the id of its object is kept. The indexer still keeps
-- all that it kept before, and keeps each object that the client's graph gained. Only `Deliver` and `Forge` change the
-- indexer.
pub record PromisesKept {A P I : Type 0} (tools : PackTools A) (keeps : I → Id → Type 0) (s : KeptWorld A P I)
    (event : Event A) (outcome : Outcome) (new : KeptWorld A P I) : Type 0 where
  pub adds : AddsKept (keeps s.indexer) event
  pub promises : Promises tools s.world event outcome new.world
  pub keeps_on : KeepsOn (keeps s.indexer) (keeps new.indexer) s.world.repo.graph.entries new.world.repo.graph.entries
  pub keeps_at : KeepsAt keeps event s.indexer new.indexer s.world.repo.graph.entries new.world.repo.graph.entries

-- A step keeps its promises. Or its event adds an object whose id is not kept, and fails. Then the indexer is
-- unchanged. No step changes the packer.
abbrev pub KeptPromises : {A P I : Type 0} → PackTools A → (I → Id → Type 0) → KeptWorld A P I → Event A → Outcome
    → KeptWorld A P I → Type 0
KeptPromises tools keeps s event outcome new =
    (new.packer ≡ s.packer)
    × (PromisesKept tools keeps s event outcome new
    ⊎ (RefusesUnkept (keeps s.indexer) s.world event outcome new.world × (new.indexer ≡ s.indexer)))

-- the event needs memory
abbrev pub KeptNeedsMemory : {A P I : Type 0} → KeptWorld A P I → Event A → Type 0
KeptNeedsMemory s event = NeedsMemory s.world event
