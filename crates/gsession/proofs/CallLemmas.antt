-- The possible effects of a call on a session, and the fields that every call keeps.
use Rattle.std.proofs.Common.{◌≡◌, ◌⊎◌, Bool, true, List, [], All, Contains, Option, None, Result, Ok}
use Rattle.std.proofs.Common.{Err, inl, inr, refl, sym, ap, ◌∙◌}
use Rattle.std.specs.Prelude.{◌||◌, ◌==◌, length}
use Rattle.std.proofs.lemmas.Bool.{false≢true}
use Rattle.std.proofs.lemmas.List.{append-nil}
use Rattle.gpkt.specs.Change.{Change}
use Rattle.gpkt.specs.Packets.{Packet}
use Rattle.ggrammar.specs.Capabilities.{Capability}
use Rattle.gfetchreply.specs.FetchReplies.{FetchReply, Reading, reply_of}
use Rattle.gobject.specs.declared.node.Entry.{Entry}
use Rattle.gobject.specs.Packs.{Indexes, IndexFails}
use Rattle.gdag.specs.declared.fault.GraphFault.TheVariants as graph
use Rattle.gclientrepo.specs.declared.ask.Ask.{Ask}
use Rattle.gclientrepo.specs.declared.ask.RefUpdate.{RefUpdate}
use Rattle.gclientrepo.specs.declared.fault.RepoFault.TheVariants as repo
use Rattle.gclientrepo.specs.Repos.{RepoState}
use Rattle.grequest.specs.declared.flag.FetchFlag.TheVariants.{Done}
use Rattle.grequest.specs.Asked.{Asked, Empty, Ls, Fetches, FetchAsked, is_direct, fetch_has}
use Rattle.gsession.specs.Calls.{HasCalled, heard, requested, took_refs, took_reply, settled, GoesOn}
use Rattle.gsession.specs.Calls.{Does, does_nothing, does_end, does_hear, does_ask, does_list, does_take, does_settle}
use Rattle.gsession.specs.Requesting.{MakesNext, Requests, is_due}
use Rattle.gsession.specs.Sessions.{SessionState, Hears, after_fault, tells_unborn}
use Rattle.gsession.specs.SettlingRefs.{SettlesSession}
use Rattle.gsession.specs.TakingRefs.{TakesLs}
use Rattle.gfetchreply.specs.FetchHeads.{acknowledged_by}
use Rattle.gsession.specs.TakingReplies.{Awaits, HasPack, TakesHead, TakesReply, reading_for}
use Rattle.gsession.specs.declared.fault.ClientFault.{ClientFault}
use Rattle.gsession.specs.declared.fault.ClientFault.TheVariants.{NoOpenRequest, Repo}
use Rattle.gsession.specs.declared.stage.Stage.{Stage}
use Rattle.gsession.specs.declared.stage.Stage.TheVariants.{Listing, Fetching, Settling}
use Rattle.gsession.specs.declared.taken.LsTaken.{LsTaken}
use Rattle.gsession.specs.declared.taken.Taken.{Taken}
use Rattle.gsession.specs.declared.taken.Taken.TheVariants.{Round, PackTaken}

-- ---- the stages in which a request can be made

pub due_idle : (st : Stage) (p : Option Asked) → is_due st p ≡ true → (p ≡ None) × ((st ≡ Listing) ⊎ (st ≡ Fetching))
due_idle Listing None due = (refl, inl refl)
due_idle Fetching None due = (refl, inr refl)
due_idle _ _ due = absurd (false≢true due)

-- ---- the pack in the reply to a request with `done`

pub done_direct : (asked : FetchAsked) → fetch_has asked Done ≡ true → is_direct asked ≡ true
done_direct asked done = ap (λ (b : Bool). b || length asked.haves == 0) done

pub says_pack : (reading : Reading) (lines : List Packet) (reply : FetchReply) → reading.direct ≡ true
    → reply ≡ reply_of reading lines → HasPack reply
says_pack reading lines reply direct says = rw (says, direct) tt

-- ---- the effect of each call

module _ {A : Type 0} where
  fault_does : (g : List (Entry A)) (old new : SessionState A) (fault : ClientFault A) → new ≡ after_fault old fault
      → Does g old new
  fault_does g old new NoOpenRequest is = does_nothing is
  fault_does g old new _ is = does_end is

  hear_does : (g : List (Entry A)) (old : SessionState A) (capabilities : List Capability) (new : SessionState A)
      (result : Result (Unit {0}) (ClientFault A)) → Hears old capabilities new result → Does g old new
  hear_does g old capabilities new (Ok done) is = does_hear (tells_unborn capabilities) is.0 is.1
  hear_does g old capabilities new (Err NoOpenRequest) is = does_nothing is.1
  hear_does g old capabilities new (Err _) is = absurd is

  request_does : (g : List (Entry A)) (old new : SessionState A) (result : Result Asked (ClientFault A))
      → Requests old g new result → Does g old new
  request_does g old new (Ok asked) is = does_ask asked (due_idle old.stage old.pending is.0).0 is.1
  request_does g old new (Err NoOpenRequest) is = does_nothing is.1
  request_does g old new (Err (Repo (repo.Graph graph.Memory))) is = does_end is.1
  request_does g old new (Err _) is = absurd is

  refs_do : (g : List (Entry A)) (old : SessionState A) (change : Change) (new : SessionState A)
      (result : Result (LsTaken A) (ClientFault A)) → TakesLs old g change new result → Does g old new
  refs_do g old change new (Ok taken) is = does_list is.0.0 is.1.0 is.1.2.wants is.0.1 is.1.2.after
  refs_do g old change new (Err fault) is = fault_does g old new fault is.1

  module _ (indexes : Indexes A) (index_fails : IndexFails) (r : RepoState A) where
    settle_does : (old new : SessionState A) (after : RepoState A)
        (result : Result (List (Ask A) × List RefUpdate) (ClientFault A)) → SettlesSession old r new after result
        → Does r.graph.entries old new
    settle_does old new after (Ok done) is = does_settle is.0 is.2
    settle_does old new after (Err (Repo fault)) is = does_end is.1
    settle_does old new after (Err NoOpenRequest) is = does_nothing is.1
    settle_does old new after (Err _) is = absurd is

    head_does : (old : SessionState A) (asked : FetchAsked) (reply : FetchReply) (new : SessionState A)
        (after : RepoState A) (taken : Taken) → Awaits old asked → All (Contains asked.haves) (acknowledged_by reply)
        → (fetch_has asked Done ≡ true → HasPack reply)
        → TakesHead indexes index_fails old r reply new after taken → Does r.graph.entries old new
    head_does old asked reply new after (Round common) waits named has is =
        does_take asked Fetching (acknowledged_by reply) waits named (λ done. absurd (is.0 (has done))) is.1
    head_does old asked reply new after (PackTaken added) waits named has is =
        does_take asked Settling (acknowledged_by reply) waits named (λ done. refl) is.1

    reply_does : (old : SessionState A) (change : Change) (new : SessionState A) (after : RepoState A)
        (result : Result Taken (ClientFault A)) → TakesReply indexes index_fails old r change new after result
        → Does r.graph.entries old new
    reply_does old change new after (Ok taken) (asked, waits, (reply, reads, took)) =
        head_does old asked reply new after taken waits took.0
        (λ done. says_pack (reading_for old asked) reads.lines reply (done_direct asked done) reads.says.says) took.1
    reply_does old change new after (Err fault) is = fault_does r.graph.entries old new fault is.1

    pub does : (old new : SessionState A) → HasCalled indexes index_fails r old new → Does r.graph.entries old new
    does old new (heard capabilities result is) = hear_does r.graph.entries old capabilities new result is
    does old new (requested result is) = request_does r.graph.entries old new result is
    does old new (took_refs change result is) = refs_do r.graph.entries old change new result is
    does old new (took_reply after change result is) = reply_does old change new after result is
    does old new (settled after result is) = settle_does old new after result is

  -- ---- the fields that every call keeps

  -- the fields that a call keeps unless it requests objects
  abbrev pub IsKept : SessionState A → SessionState A → Type 0
  IsKept old new = record {
    format : new.format ≡ old.format;
    refspecs : new.refspecs ≡ old.refspecs;
    limit : new.limit ≡ old.limit;
    ends : new.ends ≡ old.ends;
    options : new.options ≡ old.options;
    tips : new.tips ≡ old.tips;
    sent : new.sent ≡ old.sent;
    rounds : new.rounds ≡ old.rounds;
  }

  -- the call makes a request for objects, and no request was open before
  abbrev pub AsksObjects : List (Entry A) → SessionState A → SessionState A → Type 0
  AsksObjects g old new = (asked : FetchAsked) × (old.pending ≡ None) × MakesNext old g new (Fetches asked)

  pub kept : (g : List (Entry A)) (old new : SessionState A) → Does g old new → IsKept old new ⊎ AsksObjects g old new
  kept g old new did = by new did
    where
      all : IsKept old old
      all = record {
        format = refl;
        refspecs = refl;
        limit = refl;
        ends = refl;
        options = refl;
        tips = refl;
        sent = refl;
        rounds = refl;
      }

      by : (new : SessionState A) → Does g old new → IsKept old new ⊎ AsksObjects g old new
      by new (does_nothing is) = inl (rw is all)
      by new (does_end is) = inl (rw is all)
      by new (does_hear offers begun is) = inl (rw is all)
      by new (does_ask Empty none made) = absurd made.1
      by new (does_ask (Ls asked) none made) = inl (rw made.2 all)
      by new (does_ask (Fetches asked) none made) = inr (asked, none, made)
      by new (does_list asked reply wants waits is) = inl (rw is all)
      by new (does_take asked stage acks waits named settles is) = inl (rw is all)
      by new (does_settle stage is) = inl (rw is all)

  pub goes_on : (g : List (Entry A)) (old new : SessionState A) → Does g old new → GoesOn old new
  goes_on g old new did = elim (kept g old new did) [
    | inl k ↦ record {
      format = k.format;
      refspecs = k.refspecs;
      limit = k.limit;
      ends = k.ends;
      options = k.options;
      tips = k.tips;
      sent = ([], k.sent ∙ sym (append-nil old.sent));
    }
    | inr (asked, none, made) ↦ rw made.2 (record {
      format = refl;
      refspecs = refl;
      limit = refl;
      ends = refl;
      options = refl;
      tips = refl;
      sent = (made.0, refl);
    })
  ]
