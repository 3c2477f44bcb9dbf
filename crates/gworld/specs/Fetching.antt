-- A complete fetch: rounds in which each reply arrives complete, and a final update of the refs.
use Rattle.std.specs.Prelude.{◌≡◌, ◌⊎◌, ⊤, ℕ, ◌+◌, ◌≤◌, zero, suc, true, length, Some, slice_get}
use Rattle.gdag.specs.Walks.{CountsReached}
use Rattle.grequest.specs.Asked.{Asked}
use Rattle.ganswer.specs.Answers.{Reply, Nothing, Fetch, Ls as Refs}
use Rattle.gsession.specs.Requesting.{is_due}
use Rattle.gsession.specs.Sessions.{IsBegun, SessionState}
use Rattle.gworld.specs.Faults.{memory_refused}
use Rattle.gworld.specs.Promises.{IsListedOrDeclined, IsServedOrRefused, IsSettledOrRefused, IsTakenOrDeclined}
use Rattle.gworld.specs.Promises.{Promises, client_graph}
use Rattle.gworld.specs.Sound.{AreEndsConnected, IsSound, IsUnforgedAndFaithful}
use Rattle.gworld.specs.Worlds.{Kept, PackTools, WorldState, reply_bytes}
use Rattle.gscenario.specs.declared.event.Event.TheVariants as event
use Rattle.gworld.specs.declared.outcome.Outcome.{Outcome}
use Rattle.gworld.specs.declared.outcome.Outcome.TheVariants as outcomes

-- the event succeeded
abbrev pub IsDone : Outcome → Type 0
IsDone (outcomes.Fault number) = ⊥
IsDone _ = ⊤

module _ {A : Type 0} (tools : PackTools A) where
  -- The three events of a round: the client sends a request, the server replies, and the complete reply arrives. Each
  -- event may fail.
  pub record IsTried (w new : WorldState A) : Type 0 where
    pub count : ℕ
    pub asked : Outcome
    pub served : Outcome
    pub brought : Outcome
    pub after_asking : WorldState A
    pub after_serving : WorldState A
    pub asks : Promises tools w event.Ask asked after_asking
    pub serves : Promises tools after_asking (event.Serve (length w.sent)) served after_serving
    pub brings : Promises tools after_serving (event.Deliver (length w.kept) count) brought new
    pub whole : (kept : Kept) → slice_get after_serving.kept (length w.kept) ≡ Some kept →
        length (reply_bytes kept.reply) ≤ count

  -- a round: all three events succeeded
  pub record IsRound (w new : WorldState A) : Type 0 where
    pub tried : IsTried w new
    pub is_asked : IsDone tried.asked
    pub is_served : IsDone tried.served
    pub is_brought : IsDone tried.brought

  -- `n` rounds, one after the other
  abbrev pub Rounds : ℕ → WorldState A → WorldState A → Type 0
  Rounds zero w new = new ≡ w
  Rounds (suc n) w new = (next : WorldState A) × IsRound w next × Rounds n next new

  -- an event `Settle` makes all allowed updates of refs, unless there would be too many refs or the client is out of
  -- memory
  abbrev pub CanSettle : WorldState A → Type 0
  CanSettle w =
      (outcome : Outcome) (new : WorldState A) → Promises tools w event.Settle outcome new
      → IsSettledOrRefused w.repo w.session outcome new.repo

  -- the state of a fetch after a number of rounds: the session can make another request, or can settle
  pub record HasFetched (rounds reached : ℕ) (w : WorldState A) : Type 0 where
    pub session : SessionState A
    pub goes_on : w.session ≡ Some session
    pub either :
        ((is_due session.stage session.pending ≡ true) × (rounds ≤ reached + 1))
        ⊎ (CanSettle w × (rounds ≤ reached + 2))

  -- A new session whose tips reach `reached` ids can settle after at most `reached + 2` rounds. The premises are that
  -- no bytes were forged, and that the packer and the indexer are faithful.
  abbrev pub FetchesComplete : Type 0
  FetchesComplete =
      (w new : WorldState A) (begun : SessionState A) (rounds reached parents : ℕ)
      → IsUnforgedAndFaithful tools w → AreEndsConnected w → IsSound tools w → w.session ≡ Some begun → IsBegun begun
      → CountsReached (client_graph w) begun.tips reached parents → Rounds rounds w new
      → HasFetched rounds reached new

  -- ---- reasons for an event of a round to fail

  -- the client accepts the complete reply, or rejects it because of a limit, for lack of memory, or because the name of
  -- a local ref would be invalid
  abbrev pub IsReplyTakenOrDeclined : WorldState A → SessionState A → Reply → Outcome → Type 0
  IsReplyTakenOrDeclined w s Nothing outcome = ⊥
  IsReplyTakenOrDeclined w s (Refs reply) outcome = IsListedOrDeclined w s reply outcome
  IsReplyTakenOrDeclined w s (Fetch reply) outcome = IsTakenOrDeclined tools w.repo reply outcome

  -- The three events of a round are the client's request, the server's reply, and the delivery of the reply. Each event
  -- fails only because of a limit or for lack of memory. The delivery of an ls-refs reply may also fail because the
  -- name of a local ref would be invalid.
  pub record StopsByLimits {w new : WorldState A} (tried : IsTried w new) : Type 0 where
    pub asks : IsDone tried.asked ⊎ (tried.asked ≡ outcomes.Fault memory_refused)
    pub serves : IsDone tried.asked →
        (request : Asked) × IsServedOrRefused tools tried.after_asking.server (Some request) tried.served
    pub takes : IsDone tried.asked → IsDone tried.served →
        (s : SessionState A) × (reply : Reply)
        × IsReplyTakenOrDeclined tried.after_serving s reply tried.brought

  -- an event of a round fails only for the reasons in `StopsByLimits`, if no bytes were forged and the packer and the
  -- indexer are faithful
  abbrev pub OnlyLimitsRefuse : Type 0
  OnlyLimitsRefuse =
      (w new : WorldState A) (s : SessionState A) → IsUnforgedAndFaithful tools w → w.session ≡ Some s
      → is_due s.stage s.pending ≡ true → (tried : IsTried w new) → StopsByLimits tried
