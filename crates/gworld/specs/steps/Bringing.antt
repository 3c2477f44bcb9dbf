-- Definitions for private functions and proofs: the start of a world, the delivery of bytes to the client, and runs.
use Rattle.std.specs.Prelude.{◌≡◌, ◌↔◌, ⊤, ℕ, Bool, IsTrue, List, slice_get, take, Option, None, Some, Result, Ok, Err}
use Rattle.gname.specs.Ids.{Id}
use Rattle.gpkt.specs.Packets.{Bytes}
use Rattle.gobject.specs.Packs.{Indexes, IndexFails}
use Rattle.gobject.specs.declared.node.Entry.{Entry}
use Rattle.gdag.specs.Laws.{AgreesWith}
use Rattle.gclientrepo.specs.Repos.{RepoState}
use Rattle.grequest.specs.Asked.{Asked, Ls, Fetches}
use Rattle.gsession.specs.Sessions.{SessionState}
use Rattle.gsession.specs.declared.fault.ClientFault.{ClientFault}
use Rattle.gsession.specs.declared.taken.LsTaken.{LsTaken}
use Rattle.gsession.specs.declared.taken.Taken.{Taken}
use Rattle.gsession.specs.declared.taken.Taken.TheVariants.{Round, PackTaken}
use Rattle.gworld.specs.Faults.{out_of_turn}
use Rattle.gworld.specs.KeepingWorlds.{KeptPromises, KeptWorld}
use Rattle.gworld.specs.Runs.{RunWith}
use Rattle.gworld.specs.Sound.{IsSound}
use Rattle.gworld.specs.Events.{Disagrees}
use Rattle.gworld.specs.Taking.{IsFullAnswer, TakesBytes, code_of}
use Rattle.gworld.specs.Worlds.{Kept, PackTools, reply_bytes}
use Rattle.gscenario.specs.declared.event.Event.{Event}
use Rattle.gworld.specs.declared.outcome.Outcome.{Outcome}
use Rattle.gworld.specs.declared.outcome.Outcome.TheVariants as outcomes
use Rattle.gworld.specs.declared.incoming.AwaitedReply.{AwaitedReply}
use Rattle.gworld.specs.declared.incoming.AwaitedReply.TheVariants.{Nothing, Refs, Objects}

-- the kind of reply that answers the open request, or `Nothing` if no request is open
abbrev pub IsAwaited : Option Asked → AwaitedReply → Type 0
IsAwaited None Nothing = ⊤
IsAwaited (Some (Ls asked)) Refs = ⊤
IsAwaited (Some (Fetches asked)) Objects = ⊤
IsAwaited _ _ = ⊥

-- the outcome of an ls-refs reply
abbrev pub refs_outcome : {A : Type 0} → Result (LsTaken A) (ClientFault A) → Outcome
refs_outcome (Ok taken) = outcomes.LsTaken taken.asks taken.wants
refs_outcome (Err fault) = outcomes.Fault (code_of fault)

-- the outcome of a fetch reply
abbrev pub objects_outcome : {A : Type 0} → Result Taken (ClientFault A) → Outcome
objects_outcome (Ok (Round common)) = outcomes.Round common
objects_outcome (Ok (PackTaken added)) = outcomes.PackTaken added
objects_outcome (Err fault) = outcomes.Fault (code_of fault)

module _ {A : Type 0} (indexes : Indexes A) (index_fails : IndexFails) where
  -- the bytes arrive as the reply to the open request, if there is an open request
  abbrev pub TakesIfOpen : Option Asked → SessionState A → RepoState A → Bytes → Option Outcome → SessionState A
      → RepoState A → Type 0
  TakesIfOpen None s repo bytes None after new = (after ≡ s) × (new ≡ repo)
  TakesIfOpen (Some asked) s repo bytes (Some outcome) after new =
      TakesBytes indexes index_fails asked s repo bytes outcome after new
  TakesIfOpen _ s repo bytes _ after new = ⊥

  -- a kept reply arrives as the reply to the open request, if there is an open request
  abbrev pub BringsTo : Kept → ℕ → Option Asked → SessionState A → RepoState A → Bool → Outcome → SessionState A
      → RepoState A → Bool → Type 0
  BringsTo kept count None s repo mark outcome after new marked =
      (outcome ≡ outcomes.Fault out_of_turn) × (after ≡ s) × (new ≡ repo) × (marked ≡ mark)
  BringsTo kept count (Some asked) s repo mark outcome after new marked =
      TakesBytes indexes index_fails asked s repo (take count (reply_bytes kept.reply)) outcome after new
      × (IsTrue marked ↔ IsFullAnswer kept asked count outcome)

-- The events happen with these outcomes, and the run ends in a sound world. Each step keeps its promises, or it adds an
-- object at the client that is not kept, and is refused.
pub record RunsSoundly {A P I : Type 0} (tools : PackTools A) (keeps : I → Id → Type 0) (s : KeptWorld A P I)
    (events : List (Event A)) (outcomes : List Outcome) (new : KeptWorld A P I) : Type 0 where
  pub sound : IsSound tools new.world
  pub run : RunWith (KeptPromises tools keeps) s events outcomes new

-- ---- making a world

-- the client does not hold a different object under the id at this position of the server's graph
abbrev pub AgreesAt : {A : Type 0} → List (Entry A) → List (Entry A) → ℕ → Type 0
AgreesAt {A} server client place =
    (entry : Entry A) → slice_get server place ≡ Some entry → AgreesWith client entry

-- the client holds a different object under this id, which is at this position of the server's graph
abbrev pub DisagreesAt : {A : Type 0} → List (Entry A) → List (Entry A) → ℕ → Id → Type 0
DisagreesAt {A} server client place id =
    (entry : Entry A) × (slice_get server place ≡ Some entry) × Disagrees client entry × (id ≡ entry.id)

-- the id at this position of the graph is kept
abbrev pub IsKeptAt : {A : Type 0} → (Id → Type 0) → List (Entry A) → ℕ → Type 0
IsKeptAt {A} keeps g place = (entry : Entry A) → slice_get g place ≡ Some entry → keeps entry.id

-- this id is at this position of the graph, and it is not kept
abbrev pub IsUnkeptAt : {A : Type 0} → (Id → Type 0) → List (Entry A) → ℕ → Id → Type 0
IsUnkeptAt {A} keeps g place id =
    (entry : Entry A) × (slice_get g place ≡ Some entry) × ¬ (keeps entry.id) × (id ≡ entry.id)
