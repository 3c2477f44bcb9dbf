-- The wants, the state of a session after a reply, the effect of a reply on the repository, and sessions that are over.
use Rattle.std.proofs.Common.{◌≡◌, ◌<◌, ℕ, Bool, true, List, length, get_or, Option, Some, None}
use Rattle.std.proofs.Common.{Ok, Err, inl, inr, refl, sym, ap, subst, ◌∙◌}
use Rattle.std.specs.Prelude.{IsSome}
use Rattle.std.proofs.lemmas.Bool.{false≢true}
use Rattle.std.proofs.lemmas.List.Elements.{Contains-get_or}
use Rattle.gname.specs.declared.formats.Format.{Format}
use Rattle.gpkt.specs.Packets.{Packet}
use Rattle.ggrammar.specs.Grammar.{Judge}
use Rattle.ggrammar.specs.Kinds.{Meaning, ReadsExactly, ReadsMessage, SaysAtFront}
use Rattle.ggrammar.specs.MessageBytes.{known_bytes}
use Rattle.ggrammar.specs.declared.ends.Ends.{Ends}
use Rattle.glsreply.specs.LsReplies.{LsReply}
use Rattle.glsreply.specs.LsReplies as ls
use Rattle.gfetchreply.specs.FetchReplies.{FetchReply, Reading, Says, brings, judge}
use Rattle.gobject.specs.declared.node.Entry.{Entry}
use Rattle.gobject.specs.declared.node.Node.{Node}
use Rattle.gobject.specs.Objects.{node_at}
use Rattle.gobject.specs.Packs.{Indexes, IndexFails}
use Rattle.gdag.specs.Laws.{DistinctAreOnce}
use Rattle.gdag.proofs.Choosing.{one_choice, select_from, select_has}
use Rattle.gdag.proofs.IdLists.{in_or_not}
use Rattle.gdag.specs.Levels.{distinct_of}
use Rattle.gdag.specs.Reach.{IsConnected}
use Rattle.gclientrepo.specs.Asks.{asked_ids}
use Rattle.gclientrepo.specs.Repos.{RepoState}
use Rattle.gclientrepo.specs.declared.fault.RepoFault.TheVariants as repo
use Rattle.grequest.specs.Asked.{Fetches, FetchAsked, is_direct}
use Rattle.gsession.specs.Asking.{asked_of}
use Rattle.gsession.specs.Laws.{ListingIsDecided, OnlyGrows, TakingOnlyGrows, WantsAreExact}
use Rattle.gsession.specs.Laws.{OverHearsNone, OverRequestsNone, OverSettlesNone, OverTakesNoRefs, OverTakesNoReply}
use Rattle.gsession.specs.Sessions.{SessionState}
use Rattle.gsession.specs.TakingRefs.{TakesLines, with_refs}
use Rattle.gsession.specs.TakingReplies.{Awaits, DoneIsLast, HasPack, ReadsFetch, TakesHead, TakingIsDecided}
use Rattle.gsession.specs.TakingReplies.{reading_for}
use Rattle.gsession.specs.declared.fault.ClientFault.TheVariants.{Index, Message, NoOpenRequest, Repo, StrangeAck}
use Rattle.gsession.specs.declared.fault.ClientFault.TheVariants.{TooManyWants}
use Rattle.gsession.specs.declared.stage.Stage.TheVariants.{Settling}
use Rattle.gsession.specs.declared.taken.LsTaken.{LsTaken}
use Rattle.gsession.specs.declared.taken.Taken.{Taken}
use Rattle.gsession.specs.declared.taken.Taken.TheVariants.{Round, PackTaken}
use Rattle.gsession.proofs.BoundLemmas.{none_follows}
use Rattle.gsession.proofs.CallLemmas.{done_direct, says_pack}
use Rattle.gdag.proofs.Growing.{grows_none, inserts_grows}

-- the same bytes encode only one message
one_message : {M : Type 0} (judge : Judge) (brings : List Packet → Packet → Bool) (Says : Meaning M)
    → ReadsExactly judge brings Says → (bytes left also : List ℕ) (one other : M)
    → ReadsMessage judge Says (known_bytes bytes left) one → ReadsMessage judge Says (known_bytes bytes also) other → other ≡ one
one_message judge brings Says exactly bytes left also one other reads reads_too =
    let there : SaysAtFront Says bytes left one = (exactly bytes left left (Ok one) one reads tt).0 (refl, refl) in
    let same = ((exactly bytes also left (Ok other) one reads_too tt).1 there).0 in
    cc

module _ {A : Type 0} where
  -- ---- wants

  held_or_not : (found : Option (Node A)) → ¬ (¬ (IsSome found)) → IsSome found
  held_or_not None twice = absurd (twice (λ held. false≢true held))
  held_or_not (Some node) twice = refl

  -- an id that is not unconnected is connected
  connected_or_not : (g : List (Entry A)) (a : List ℕ) → ¬ (¬ (IsConnected g a)) → IsConnected g a
  connected_or_not g a twice b path = held_or_not (node_at g b) (λ lost. twice (λ connected. lost (connected b path)))

  abbrev IsLacking : List (Entry A) → List ℕ → Type 0
  IsLacking g a = ¬ (IsConnected g a)

  pub wants_are_exact : DistinctAreOnce → WantsAreExact A
  wants_are_exact law g asks wants are =
      let P : List ℕ → Type 0 = IsLacking g in
      let ids : List (List ℕ) = asked_ids asks in
      let from = λ (k : ℕ) (d : List ℕ) (low : k < length wants).
      select_from P are (get_or wants k d) (Contains-get_or wants k d low) in
      record {
        asked = λ k d low. ((law ids).same (get_or wants k d)).0 (from k d low).1;
        missing = λ k d low. (from k d low).0;
        others = λ k d low.
            let a = get_or ids k d in
            elim (in_or_not wants a) [
              | inl there ↦ inl there
              | inr out ↦ inr (connected_or_not g a (λ lacks.
                  out (select_has P are a lacks (((law ids).same a).1 (Contains-get_or ids k d low)))))
            ];
      }

  -- ---- the ls-refs reply

  same_lines : (old one other : SessionState A) (g : List (Entry A)) (reply : LsReply) (taken : LsTaken A)
      → TakesLines old g reply one taken → TakesLines old g reply other taken → one ≡ other
  same_lines old one other g reply taken takes also =
      takes.after
      ∙ ap (with_refs old reply)
      (one_choice (IsLacking g) (distinct_of (asked_ids (asked_of {A = A} old.refspecs reply.lines))) takes.wants
      also.wants takes.wanted also.wanted)
      ∙ sym also.after

  pub listing_is_decided : ((format : Format) (ends : Ends)
      → ReadsExactly (ls.judge format ends) ls.brings (ls.Says format ends)) → ListingIsDecided A
  listing_is_decided exactly old one other g bytes left also (Ok taken) takes takes_too =
      let same = one_message (ls.judge old.format old.ends) ls.brings (ls.Says old.format old.ends)
      (exactly old.format old.ends) bytes left also takes.1.0 takes_too.1.0 takes.1.1 takes_too.1.1 in
      same_lines old one other g takes.1.0 taken takes.1.2
      (subst (λ (r : LsReply). TakesLines old g r other taken) same takes_too.1.2)
  listing_is_decided exactly old one other g bytes left also (Err fault) takes takes_too = takes.1 ∙ sym takes_too.1

  -- ---- the fetch reply

  one_asked : (s : SessionState A) (one other : FetchAsked) → Awaits s one → Awaits s other → other ≡ one
  one_asked s one other waits also =
      let same : Some (Fetches other) ≡ Some (Fetches one) = sym also ∙ waits in
      cc

  still_grows : (r after : RepoState A) → after ≡ r → OnlyGrows r after
  still_grows r after same = rw same
      (record { grows = grows_none r.graph.entries r.graph.entries refl; format = refl; refs = refl; marks = refl })

  module _ (indexes : Indexes A) (index_fails : IndexFails) where
    one_head : (old one other : SessionState A) (r after after_too : RepoState A) (reply : FetchReply) (taken : Taken)
        → TakesHead indexes index_fails old r reply one after taken
        → TakesHead indexes index_fails old r reply other after_too taken → one ≡ other
    one_head old one other r after after_too reply (Round common) takes also = takes.1 ∙ sym also.1
    one_head old one other r after after_too reply (PackTaken added) takes also = takes.1 ∙ sym also.1

    pub taking_is_decided : ((reading : Reading) → ReadsExactly (judge reading) (brings reading) (Says reading))
        → TakingIsDecided indexes index_fails
    taking_is_decided exactly old one other r after after_too bytes left also (Ok taken) takes takes_too =
        let reads = subst (λ (asked : FetchAsked). ReadsFetch (reading_for old asked) (known_bytes bytes also) takes_too.2.0)
        (one_asked old takes.0 takes_too.0 takes.1 takes_too.1) takes_too.2.1 in
        let reading = reading_for old takes.0 in
        let reply = one_message (judge reading) (brings reading) (Says reading) (exactly reading) bytes left also
        takes.2.0 takes_too.2.0 takes.2.1 reads in
        one_head old one other r after after_too takes.2.0 taken takes.2.2.1
        (subst (λ (f : FetchReply). TakesHead indexes index_fails old r f other after_too taken) reply takes_too.2.2.1)
    taking_is_decided exactly old one other r after after_too bytes left also (Err fault) takes takes_too =
        takes.1 ∙ sym takes_too.1

    settles_next : (old new : SessionState A) (r after : RepoState A) (reply : FetchReply) (taken : Taken)
        → HasPack reply → TakesHead indexes index_fails old r reply new after taken → new.stage ≡ Settling
    settles_next old new r after reply (Round common) has takes = absurd (takes.0 has)
    settles_next old new r after reply (PackTaken added) has takes = ap (λ (o : SessionState A). o.stage) takes.1

    pub done_is_last : DoneIsLast indexes index_fails
    done_is_last old new r after change asked taken waits done (also, awaits, (reply, reads, took)) =
        let direct : is_direct also ≡ true = rw (one_asked old asked also waits awaits) (done_direct asked done) in
        settles_next old new r after reply taken
        (says_pack (reading_for old also) reads.lines reply direct reads.says.says) took.1

    -- ---- the repository

    head_grows : (old new : SessionState A) (r after : RepoState A) (reply : FetchReply) (taken : Taken)
        → TakesHead indexes index_fails old r reply new after taken → OnlyGrows r after
    head_grows old new r after reply (Round common) took = still_grows r after took.3
    head_grows old new r after reply (PackTaken added) (has, same, (entries, indexed, inserts)) = record {
      grows = inserts_grows r.graph.format r.graph.entries entries after.graph.entries inserts.adds.1;
      format = inserts.adds.0;
      refs = inserts.refs;
      marks = inserts.marks;
    }

    pub taking_only_grows : TakingOnlyGrows indexes index_fails
    taking_only_grows old new r after change (Ok taken) (asked, waits, (reply, reads, took)) =
        head_grows old new r after reply taken took.1
    taking_only_grows old new r after change (Err fault) is = still_grows r after is.2

  -- ---- a session that is over

  pub over_hears_none : OverHearsNone A
  over_hears_none old new capabilities (Ok done) is hears = cc
  over_hears_none old new capabilities (Err NoOpenRequest) is hears = record { refused = refl; same = hears.1 }
  over_hears_none old new capabilities (Err _) is hears = absurd hears

  pub over_requests_none : OverRequestsNone A
  over_requests_none g old new result is requests =
      none_follows g old new result (inr (is.pending, inr is.stage)) requests

  pub over_takes_no_refs : OverTakesNoRefs A
  over_takes_no_refs g old new change (Ok taken) is takes = cc
  over_takes_no_refs g old new change (Err NoOpenRequest) is takes =
      (record { refused = refl; same = takes.1 }, takes.0.1)
  over_takes_no_refs g old new change (Err (Message fault)) is takes = cc
  over_takes_no_refs g old new change (Err TooManyWants) is takes = cc
  over_takes_no_refs g old new change (Err (Repo fault)) is takes = cc
  over_takes_no_refs g old new change (Err _) is takes = absurd takes.0

  pub over_takes_no_reply : (indexes : Indexes A) (index_fails : IndexFails) → OverTakesNoReply indexes index_fails
  over_takes_no_reply indexes index_fails old new r after change (Ok taken) is takes = cc
  over_takes_no_reply indexes index_fails old new r after change (Err NoOpenRequest) is takes =
      (record { refused = refl; same = takes.1 }, takes.0.1, takes.2)
  over_takes_no_reply indexes index_fails old new r after change (Err (Message fault)) is takes = cc
  over_takes_no_reply indexes index_fails old new r after change (Err (StrangeAck id)) is takes = cc
  over_takes_no_reply indexes index_fails old new r after change (Err (Index fault)) is takes = cc
  over_takes_no_reply indexes index_fails old new r after change (Err (Repo (repo.Graph fault))) is takes = cc
  over_takes_no_reply indexes index_fails old new r after change (Err _) is takes = absurd takes.0

  pub over_settles_none : OverSettlesNone A
  over_settles_none old new r after (Ok done) is settles = cc
  over_settles_none old new r after (Err (Repo fault)) is settles = cc
  over_settles_none old new r after (Err NoOpenRequest) is settles =
      (record { refused = refl; same = settles.1 }, settles.2)
  over_settles_none old new r after (Err _) is settles = absurd settles

pub ruleset over_laws =
    (over_hears_none, over_requests_none, over_takes_no_refs, over_takes_no_reply, over_settles_none)
