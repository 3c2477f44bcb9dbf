-- The effect of a complete message on the client, before the client sends its answer.
use Rattle.std.specs.Prelude.{◌≡◌, ◌≢◌, ◌≤◌, List, Some, None, Result, Ok, Err}
use Rattle.gpkt.specs.Packets.{Packet}
use Rattle.ggrammar.specs.Capabilities.{Capability}
use Rattle.ghello.specs.Offers.{check_fault}
use Rattle.gobject.specs.Packs.{Indexes, IndexFails}
use Rattle.grequest.specs.Asked.{FetchAsked, Fetches}
use Rattle.gsession.specs.Sessions.{SessionState, IsBegun, over, tells_unborn}
use Rattle.gsession.specs.declared.fault.ClientFault.{ClientFault}
use Rattle.gsession.specs.declared.fault.ClientFault.TheVariants as client
use Rattle.gsession.specs.declared.stage.Stage.TheVariants.{Over}
use Rattle.gfetch.specs.Fetching.{AreDeclinedRefs, IsDeclined, KeepsIndexer, messages_of}
use Rattle.gfetch.specs.Turns.{ClientState, TakesObjects, TakesRefs}
use Rattle.gfetch.specs.declared.side.ClientSide.{ClientSide}

-- the indexer and the repository are unchanged
pub record KeepsRest {A K : Type 0} (old new : ClientSide A K) : Type 0 where
  pub indexer : KeepsIndexer old new
  pub repo : new.client.repo ≡ old.client.repo

-- the session is ready for its next request or for its end, and not more messages remain than before
pub record IsReady {A : Type 0} (old new : SessionState A) : Type 0 where
  pub pending : new.pending ≡ None
  pub stage : new.stage ≢ Over
  pub fewer : messages_of new ≤ messages_of old

-- the result of applying an advertisement
abbrev pub AcceptsAdvert : {A : Type 0} → SessionState A → List Capability → SessionState A
    → Result (Unit {0}) (ClientFault A) → Type 0
AcceptsAdvert old capabilities new (Ok done) =
    (check_fault old.format capabilities ≡ None) × IsBegun old
    × (new ≡ record old { offers_unborn = tells_unborn capabilities })
AcceptsAdvert old capabilities new (Err client.NoOpenRequest) = ¬ (IsBegun old)
AcceptsAdvert old capabilities new (Err (client.Message cause)) =
    (check_fault old.format capabilities ≡ Some cause.why) × (cause.frame ≡ 0) × (new ≡ over old)
AcceptsAdvert old capabilities new (Err _) = ⊥

-- the client rejects the content of a complete reply for this reason; the fault ends the session
pub record Declines {A : Type 0} (Reason : Type 0) (old new : ClientState A) : Type 0 where
  pub declined : Reason
  pub session : new.session ≡ over old.session
  pub repo : new.repo ≡ old.repo
  pub unborn : new.unborn ≡ old.unborn

module _ {A : Type 0} (indexes : Indexes A) (index_fails : IndexFails) where
  -- the result of applying a complete reply to a fetch request
  abbrev pub AcceptsObjects : FetchAsked → ClientState A → List Packet → ClientState A
      → Result (Unit {0}) (ClientFault A) → Type 0
  AcceptsObjects asked old lines new (Ok done) = TakesObjects indexes index_fails old.session asked old lines new
  AcceptsObjects asked old lines new (Err cause) =
      Declines (IsDeclined indexes index_fails old.session (Fetches asked) old.repo lines cause) old new

-- the result of applying a complete reply to an ls-refs request
abbrev pub AcceptsRefs : {A : Type 0} → ClientState A → List Packet → ClientState A
    → Result (Unit {0}) (ClientFault A) → Type 0
AcceptsRefs old lines new (Ok done) = TakesRefs old.session old lines new
AcceptsRefs old lines new (Err cause) =
    Declines (AreDeclinedRefs old.session old.repo lines cause) old new
