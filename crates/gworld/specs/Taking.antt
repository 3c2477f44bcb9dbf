-- Bytes that arrive as the reply to the open request.
use Rattle.std.specs.Prelude.{◌≡◌, ⊤, ℕ, false, ◌≤◌, length, Ok, Err}
use Rattle.gpkt.specs.Packets.{Bytes}
use Rattle.ggrammar.specs.MessageBytes.{known_bytes}
use Rattle.ggrammar.specs.MessageReading.{IsReadFailure}
use Rattle.gobject.specs.Packs.{Indexes, IndexFails}
use Rattle.gclientrepo.specs.Repos.{RepoState}
use Rattle.grequest.specs.Asked.{Asked, Empty, Ls, Fetches}
use Rattle.gsession.specs.Faults.{client_fault_row}
use Rattle.gsession.specs.Sessions.{SessionState}
use Rattle.gsession.specs.TakingRefs.{TakesLs}
use Rattle.gsession.specs.TakingReplies.{TakesReply}
use Rattle.gsession.specs.declared.fault.ClientFault.{ClientFault}
use Rattle.gsession.specs.declared.fault.ClientFault.TheVariants as client
use Rattle.gsession.specs.declared.taken.LsTaken.{LsTaken}
use Rattle.gsession.specs.declared.taken.Taken.TheVariants as taken
use Rattle.gworld.specs.Worlds.{Kept, reply_bytes}
use Rattle.gworld.specs.declared.outcome.Outcome.{Outcome}
use Rattle.gworld.specs.declared.outcome.Outcome.TheVariants as outcomes

-- the number of a fault of the client
abbrev pub code_of : {A : Type 0} → ClientFault A → ℕ
code_of fault = (client_fault_row fault).0

-- the fault can occur when the client reads from a buffer in memory, a source that never fails
abbrev pub IsAtHand : {A : Type 0} → ClientFault A → Type 0
IsAtHand (client.Message fault) = IsReadFailure false false fault.why
IsAtHand _ = ⊤

-- the bytes arrive as the ls-refs reply, and the outcome gives the numbers of requested updates and wants, or a fault
abbrev pub TakesRefs : {A : Type 0} → SessionState A → RepoState A → Bytes → Outcome → SessionState A → RepoState A
    → Type 0
TakesRefs {A} s repo bytes (outcomes.LsTaken asks wants) after new =
    (left : Bytes) × (taken : LsTaken A) × TakesLs s repo.graph.entries (known_bytes bytes left) after (Ok taken)
    × (asks ≡ taken.asks) × (wants ≡ taken.wants) × (new ≡ repo)
TakesRefs {A} s repo bytes (outcomes.Fault number) after new =
    (left : Bytes) × (fault : ClientFault A) × TakesLs s repo.graph.entries (known_bytes bytes left) after (Err fault)
    × IsAtHand fault × (number ≡ code_of fault) × (new ≡ repo)
TakesRefs s repo bytes _ after new = ⊥

module _ {A : Type 0} (indexes : Indexes A) (index_fails : IndexFails) where
  -- the bytes arrive as the fetch reply, and the outcome gives the number of common ids or of new objects, or a fault
  abbrev pub TakesObjects : SessionState A → RepoState A → Bytes → Outcome → SessionState A → RepoState A → Type 0
  TakesObjects s repo bytes (outcomes.Round common) after new =
      (left : Bytes)
      × TakesReply indexes index_fails s repo (known_bytes bytes left) after new (Ok (taken.Round common))
  TakesObjects s repo bytes (outcomes.PackTaken added) after new =
      (left : Bytes)
      × TakesReply indexes index_fails s repo (known_bytes bytes left) after new (Ok (taken.PackTaken added))
  TakesObjects s repo bytes (outcomes.Fault number) after new =
      (left : Bytes) × (fault : ClientFault A)
      × TakesReply indexes index_fails s repo (known_bytes bytes left) after new (Err fault)
      × IsAtHand fault × (number ≡ code_of fault)
  TakesObjects s repo bytes _ after new = ⊥

  -- the bytes arrive as the reply to the open request, which is for refs or for objects
  abbrev pub TakesBytes : Asked → SessionState A → RepoState A → Bytes → Outcome → SessionState A → RepoState A → Type 0
  TakesBytes Empty s repo bytes outcome after new = ⊥
  TakesBytes (Ls asked) s repo bytes outcome after new = TakesRefs s repo bytes outcome after new
  TakesBytes (Fetches asked) s repo bytes outcome after new = TakesObjects s repo bytes outcome after new

-- the outcome is an accepted pack
abbrev pub IsPackTaken : Outcome → Type 0
IsPackTaken (outcomes.PackTaken added) = ⊤
IsPackTaken _ = ⊥

-- a complete kept reply arrived, its request is equal to the open request, and the client accepted its pack
pub record IsFullAnswer (kept : Kept) (asked : Asked) (count : ℕ) (outcome : Outcome) : Type 0 where
  pub same : kept.asked ≡ asked
  pub all : length (reply_bytes kept.reply) ≤ count
  pub pack : IsPackTaken outcome
