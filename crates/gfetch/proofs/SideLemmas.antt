-- The answers of a client to its messages.
use Rattle.std.proofs.Common.{◌≡◌, ◌≢◌, ◌<◌, ◌≤◌, ◌+◌, ◌-◌, ◌^◌, ◌∙◌, ℕ, Bool, true, false, List, [], ◌∷◌, Option, Some, None, Result, Ok, Err, refl, sym, ap, subst, arith}
use Rattle.gpkt.specs.Packets.{Packet}
use Rattle.ggrammar.specs.Grammar.{IsWhole}
use Rattle.ggrammar.specs.Capabilities.{Capability}
use Rattle.ghello.specs.Adverts as advert
use Rattle.ghello.specs.Offers.{check_fault}
use Rattle.glsreply.specs.LsReplies as ls
use Rattle.glsreply.specs.LsReplies.{LsReply}
use Rattle.gname.specs.Ids.{Id}
use Rattle.gname.specs.Names.{Name}
use Rattle.gobject.specs.declared.node.Entry.{Entry}
use Rattle.gobject.specs.Packs.{Indexes, IndexFails}
use Rattle.gclientrepo.specs.Repos.{RepoState}
use Rattle.gdag.specs.declared.fault.GraphFault.TheVariants as graph
use Rattle.gclientrepo.specs.declared.fault.RepoFault.TheVariants as repo
use Rattle.gfetchreply.specs.FetchReplies.{FetchReply, reply_of}
use Rattle.gfetchreply.specs.FetchReplies as fetch
use Rattle.grequest.specs.Asked.{Asked, Empty, Ls, Fetches, FetchAsked, LsRefsAsked}
use Rattle.gsession.specs.Keeping.{KeepsOn}
use Rattle.gsession.specs.Requesting.{Requests, is_due}
use Rattle.gsession.specs.Sessions.{SessionState, Hears, IsBegun, after_fault, no_memory, over, tells_unborn}
use Rattle.gsession.specs.TakingRefs.{AcceptsRefs as SessionAcceptsRefs, IsUnaccepted, stage_for}
use Rattle.gsession.specs.TakingReplies.{AcceptsRead, HasTaken, IsReplyFault, reading_for, stage_after}
use Rattle.gsession.specs.declared.stage.Stage.{Stage}
use Rattle.gsession.specs.declared.stage.Stage.TheVariants.{Listing, Fetching, Settling, Over}
use Rattle.gsession.specs.declared.fault.ClientFault.{ClientFault}
use Rattle.gsession.specs.declared.fault.ClientFault.TheVariants as client
use Rattle.gsession.specs.declared.taken.LsTaken.{LsTaken}
use Rattle.gsession.specs.declared.taken.Taken.{Taken}
use Rattle.gsession.specs.declared.taken.Taken.TheVariants.{Round, PackTaken}
use Rattle.gsession.proofs.KeepingLemmas.{keeps_stays, keeps_then}
use Rattle.gdialogue.specs.Sides.{MayAnswer, SaysExactly}
use Rattle.gdialogue.specs.declared.side.Answer.{Answer}
use Rattle.gdialogue.specs.declared.side.Answer.TheVariants as answer
use Rattle.gfetch.specs.Fetching.{AnswersAdvert, AreDeclinedRefs, Fails, GoesOn, KeepsObjects, LacksMemory, MismatchesAdvert, messages_after, messages_of}
use Rattle.gfetch.specs.Saying.{reply_rest}
use Rattle.gfetch.specs.Turns.{ClientState}
use Rattle.gfetch.specs.declared.asking.ClientReply.{ClientReply}
use Rattle.gfetch.specs.declared.asking.ClientReply.TheVariants as reply
use Rattle.gfetch.specs.declared.side.ClientSide.{ClientSide}
use Rattle.gfetch.specs.steps.Accepting.{AcceptsAdvert, AcceptsObjects, AcceptsRefs, IsReady, KeepsRest}

-- ---- the stages

-- fetching or settling is not the end of the session
stage_goes : (wants : List (List ℕ)) → stage_for wants ≢ Over
stage_goes [] = λ e. absurd (cc e)
stage_goes (want ∷ wants) = λ e. absurd (cc e)

few_after_refs : (wants : List (List ℕ)) (rounds : ℕ) → messages_after (stage_for wants) None rounds ≤ 2 ^ 64 + 2
few_after_refs [] rounds = omega arith
few_after_refs (want ∷ wants) rounds = omega arith

awaited_refs : (stage : Stage) (asked : LsRefsAsked) (rounds : ℕ) → messages_after stage (Some (Ls asked)) rounds ≡ 2 ^ 64 + 2
awaited_refs Listing asked rounds = refl
awaited_refs Fetching asked rounds = refl
awaited_refs Settling asked rounds = refl
awaited_refs Over asked rounds = refl

taken_goes : (taken : Taken) → stage_after taken ≢ Over
taken_goes (Round common) = λ e. absurd (cc e)
taken_goes (PackTaken added) = λ e. absurd (cc e)

few_after_objects : (taken : Taken) (rounds : ℕ) → messages_after (stage_after taken) None rounds ≤ (2 ^ 64 + 1) - rounds
few_after_objects (Round common) rounds = omega arith
few_after_objects (PackTaken added) rounds = omega arith

awaited_objects : (stage : Stage) (asked : FetchAsked) (rounds : ℕ) → messages_after stage (Some (Fetches asked)) rounds ≡ (2 ^ 64 + 1) - rounds
awaited_objects Listing asked rounds = refl
awaited_objects Fetching asked rounds = refl
awaited_objects Settling asked rounds = refl
awaited_objects Over asked rounds = refl

settles_if : (stage : Stage) → is_due stage None ≡ false → stage ≢ Over → stage ≡ Settling
settles_if Listing undue goes = absurd (cc undue)
settles_if Fetching undue goes = absurd (cc undue)
settles_if Settling undue goes = refl
settles_if Over undue goes = absurd (goes refl)

-- a session that can make its next request has no open request
due_none : (stage : Stage) (pending : Option Asked) → is_due stage pending ≡ true → pending ≡ None
due_none stage None due = refl
due_none Listing (Some asked) due = absurd (cc due)
due_none Fetching (Some asked) due = absurd (cc due)
due_none Settling (Some asked) due = absurd (cc due)
due_none Over (Some asked) due = absurd (cc due)

module _ {A : Type 0} where
  -- ---- the advertisement

  pub advert_heard : (old new : SessionState A) (capabilities : List Capability) (result : Result (Unit {0}) (ClientFault A))
      → check_fault old.format capabilities ≡ None → Hears old capabilities new result
      → AcceptsAdvert old capabilities new result
  advert_heard old new capabilities (Ok done) fits hears = (fits, hears.0, hears.1)
  advert_heard old new capabilities (Err client.NoOpenRequest) fits hears = hears.0
  advert_heard old new capabilities (Err _) fits hears = absurd hears

  -- ---- the refs

  refs_declined : (old : ClientState A) (asked : LsRefsAsked) (reply : LsReply) (lines : List Packet) (fault : ClientFault A)
      → old.session.pending ≡ Some (Ls asked) → ls.Says old.session.format old.session.ends lines reply
      → IsUnaccepted old.session old.repo.graph.entries reply fault
      → AreDeclinedRefs old.session old.repo lines fault × (after_fault old.session fault ≡ over old.session)
  refs_declined old asked reply lines client.NoOpenRequest waits says is = absurd (is (asked, waits))
  refs_declined old asked reply lines (client.Message cause) waits says is = ((reply, says, is.1), refl)
  refs_declined old asked reply lines (client.Index cause) waits says is = ((reply, says, is.1), refl)
  refs_declined old asked reply lines client.TooManySpecs waits says is = ((reply, says, is.1), refl)
  refs_declined old asked reply lines (client.StrangeAck id) waits says is = ((reply, says, is.1), refl)
  refs_declined old asked reply lines client.TooManyWants waits says is = ((reply, says, is.1), refl)
  refs_declined old asked reply lines (client.Repo cause) waits says is = ((reply, says, is.1), refl)

  pub refs_rejected : (old new : ClientState A) (asked : LsRefsAsked) (reply : LsReply) (lines : List Packet) (fault : ClientFault A)
      → old.session.pending ≡ Some (Ls asked) → ls.Says old.session.format old.session.ends lines reply
      → SessionAcceptsRefs old.session old.repo.graph.entries reply new.session (Err fault)
      → new.repo ≡ old.repo → new.unborn ≡ old.unborn
      → AcceptsRefs old lines new (Err fault)
  refs_rejected old new asked reply lines fault waits says answers repo unborn =
      let d = refs_declined old asked reply lines fault waits says answers.0 in
      record { declined = d.0; session = answers.1 ∙ d.1; repo = repo; unborn = unborn }

  pub refs_accepted : (old new : ClientState A) (reply : LsReply) (taken : LsTaken A) (lines : List Packet)
      → ls.Says old.session.format old.session.ends lines reply
      → SessionAcceptsRefs old.session old.repo.graph.entries reply new.session (Ok taken)
      → new.repo ≡ old.repo → new.unborn ≡ taken.unborn
      → AcceptsRefs old lines new (Ok tt)
  refs_accepted old new reply taken lines says answers repo unborn =
      record { reply = reply; says = says; taken = taken; takes = answers.1; unborn = unborn; stays = repo }

  pub refs_ready : (old new : SessionState A) (g : List (Entry A)) (reply : LsReply) (taken : LsTaken A)
      → SessionAcceptsRefs old g reply new (Ok taken) → IsReady old new
  refs_ready old new g reply taken answers =
      let wants = answers.1.wants in
      let is = answers.1.after in
      let waits = answers.0 in
      record {
        pending = ap (λ (s : SessionState A). s.pending) is;
        stage = subst (λ (s : Stage). s ≢ Over) (sym (ap (λ (s : SessionState A). s.stage) is)) (stage_goes wants);
        fewer = subst (λ (n : ℕ). messages_of new ≤ n) (sym (ap (λ (p : Option Asked). messages_after old.stage p old.rounds) waits.1 ∙ awaited_refs old.stage waits.0 old.rounds))
            (subst (λ (n : ℕ). n ≤ 2 ^ 64 + 2) (sym (ap messages_of is)) (few_after_refs wants old.rounds));
      }

  -- ---- the objects

  -- the packets of a complete reply are a reply
  pub reply_said : (s : SessionState A) (asked : FetchAsked) (lines : List Packet) → IsWhole (fetch.judge (reading_for s asked)) lines
      → fetch.Says (reading_for s asked) lines (reply_of (reading_for s asked) lines)
  reply_said s asked lines whole = record { whole = whole; says = refl }

  module _ (indexes : Indexes A) (index_fails : IndexFails) where
    fault_ends : (haves : List (List ℕ)) (r : RepoState A) (reply : FetchReply) (fault : ClientFault A) (s : SessionState A)
        → IsReplyFault indexes index_fails haves r reply fault → after_fault s fault ≡ over s
    fault_ends haves r reply client.NoOpenRequest s is = absurd is
    fault_ends haves r reply (client.Message cause) s is = refl
    fault_ends haves r reply (client.Index cause) s is = refl
    fault_ends haves r reply client.TooManySpecs s is = refl
    fault_ends haves r reply (client.StrangeAck id) s is = refl
    fault_ends haves r reply client.TooManyWants s is = refl
    fault_ends haves r reply (client.Repo cause) s is = refl

    pub objects_rejected : (old new : ClientState A) (asked : FetchAsked) (reply : FetchReply) (lines : List Packet) (fault : ClientFault A)
        → fetch.Says (reading_for old.session asked) lines reply
        → AcceptsRead indexes index_fails asked.haves old.session old.repo reply new.session new.repo (Err fault)
        → new.unborn ≡ old.unborn
        → AcceptsObjects indexes index_fails asked old lines new (Err fault)
    objects_rejected old new asked reply lines fault says answers unborn = record {
      declined = (reply, says, answers.0);
      session = answers.1 ∙ fault_ends asked.haves old.repo reply fault old.session answers.0;
      repo = answers.2;
      unborn = unborn;
    }

    pub objects_accepted : (old new : ClientState A) (asked : FetchAsked) (reply : FetchReply) (lines : List Packet) (taken : Taken)
        → fetch.Says (reading_for old.session asked) lines reply
        → AcceptsRead indexes index_fails asked.haves old.session old.repo reply new.session new.repo (Ok taken)
        → new.unborn ≡ old.unborn
        → AcceptsObjects indexes index_fails asked old lines new (Ok tt)
    objects_accepted old new asked reply lines taken says answers unborn =
        record { reply = reply; says = says; taken = taken; takes = answers; unborn = unborn }

  -- the messages that remain after the session accepted a fetch reply
  messages_left : (new : SessionState A) (stage : Stage) (rounds : ℕ) → new.pending ≡ None → new.stage ≡ stage → new.rounds ≡ rounds
      → messages_of new ≡ messages_after stage None rounds
  messages_left new stage rounds pending is count =
      ap (λ (p : Option Asked). messages_after new.stage p new.rounds) pending
      ∙ ap (λ (s : Stage). messages_after s None new.rounds) is ∙ ap (λ (n : ℕ). messages_after stage None n) count

  pub objects_ready : (old new : SessionState A) (taken : Taken) → HasTaken old new taken → IsReady old new
  objects_ready old new taken has = record {
    pending = has.pending;
    stage = subst (λ (s : Stage). s ≢ Over) (sym has.stage) (taken_goes taken);
    fewer = subst (λ (n : ℕ). messages_of new ≤ n) (sym (ap (λ (p : Option Asked). messages_after old.stage p old.rounds) has.waits.1 ∙ awaited_objects old.stage has.waits.0 old.rounds))
        (subst (λ (n : ℕ). n ≤ (2 ^ 64 + 1) - old.rounds) (sym (messages_left new (stage_after taken) old.rounds has.pending has.stage has.rounds)) (few_after_objects taken old.rounds));
  }

  -- ---- the next request

  -- a session without an open request that cannot make a request, and is not over, can settle
  pub settles_next : (s : SessionState A) → s.pending ≡ None → s.stage ≢ Over → is_due s.stage s.pending ≡ false → s.stage ≡ Settling
  settles_next s pending goes undue =
      settles_if s.stage (sym (ap (λ (p : Option Asked). is_due s.stage p) pending) ∙ undue) goes

  -- the fault of a request that the session can make
  pub request_fault : (old new : SessionState A) (g : List (Entry A)) (fault : ClientFault A) → is_due old.stage old.pending ≡ true
      → Requests old g new (Err fault) → (fault ≡ no_memory) × Requests old g new (Err no_memory)
  request_fault old new g client.NoOpenRequest due fails = absurd (cc (sym due ∙ fails.0))
  request_fault old new g (client.Repo (repo.Graph graph.Memory)) due fails = (refl, fails)
  request_fault old new g _ due fails = absurd fails

  -- fewer messages remain after a request
  pub request_fewer : (old new : SessionState A) (g : List (Entry A)) (asked : Asked) → new.rounds < 2 ^ 64 → Requests old g new (Ok asked)
      → messages_of new < messages_of old
  request_fewer old new g Empty few made = absurd made.1.1
  request_fewer old new g (Ls asked) few made =
      let was : messages_of old ≡ 2 ^ 64 + 3 = messages_left old Listing old.rounds (due_none old.stage old.pending made.0) made.1.1.0 refl in
      let is : messages_of new ≡ 2 ^ 64 + 2 = ap messages_of made.1.2 ∙ awaited_refs old.stage asked old.rounds in
      omega (arith, was, is)
  request_fewer old new g (Fetches asked) few made =
      let was : messages_of old ≡ (2 ^ 64 + 1) - old.rounds = messages_left old Fetching old.rounds (due_none old.stage old.pending made.0) made.1.1.0 refl in
      let is : messages_of new ≡ (2 ^ 64 + 1) - (old.rounds + 1) = ap messages_of made.1.2 ∙ awaited_objects old.stage asked (old.rounds + 1) in
      let count : new.rounds ≡ old.rounds + 1 = ap (λ (s : SessionState A). s.rounds) made.1.2 in
      omega (arith, was, is, count, few)

-- ---- the indexer

module _ {A K : Type 0} (keeps : K → Id → Type 0) where
  -- an unchanged indexer keeps each object of an unchanged graph
  pub objects_stay : (old new : ClientSide A K) → KeepsRest old new → KeepsObjects keeps old new
  objects_stay old new rest = record {
    keeps_on = keeps_stays (keeps old.indexer.now) (keeps new.indexer.now) old.client.repo.graph.entries new.client.repo.graph.entries
        (λ id is. subst (λ (k : K). keeps k id) (sym rest.indexer.value) is) (ap (λ (r : RepoState A). r.graph.entries) rest.repo);
    in_place = rest.indexer.in_place;
  }

  -- one change after the other
  pub objects_then : (old mid new : ClientSide A K) → KeepsObjects keeps old mid → KeepsObjects keeps mid new → KeepsObjects keeps old new
  objects_then old mid new one two = record {
    keeps_on = keeps_then (keeps old.indexer.now) (keeps mid.indexer.now) (keeps new.indexer.now) old.client.repo.graph.entries mid.client.repo.graph.entries new.client.repo.graph.entries
        one.keeps_on two.keeps_on;
    in_place = two.in_place ∙ one.in_place;
  }

  -- the indexer and the graph change, and then stay the same
  pub objects_kept : (old new : ClientSide A K) (mid : ClientState A) (kept : K) → KeepsOn (keeps old.indexer.now) (keeps kept) old.client.repo.graph.entries mid.repo.graph.entries
      → new.indexer.now ≡ kept → new.indexer.ghost_name ≡ old.indexer.ghost_name → new.client.repo ≡ mid.repo → KeepsObjects keeps old new
  objects_kept old new mid kept keeps_on value in_place repo = record {
    keeps_on = subst (λ (k : K). KeepsOn (keeps old.indexer.now) (keeps k) old.client.repo.graph.entries new.client.repo.graph.entries) (sym value)
        (subst (λ (r : RepoState A). KeepsOn (keeps old.indexer.now) (keeps kept) old.client.repo.graph.entries r.graph.entries) (sym repo) keeps_on);
    in_place = in_place;
  }

-- a client that keeps its repository, followed by an unchanged step
pub rest_then : {A K : Type 0} (old new : ClientSide A K) (mid : ClientState A) → mid.repo ≡ old.client.repo → KeepsRest (record old { client = mid }) new → KeepsRest old new
rest_then old new mid same rest = record {
  indexer = record { value = rest.indexer.value; in_place = rest.indexer.in_place };
  repo = rest.repo ∙ same;
}

-- ---- answers

-- an answer without a packet ends the dialogue
pub silent : {A : Type 0} (result : Answer (ClientReply A)) (said : List Packet) (goes : Bool) → result ≡ answer.Last reply.Silence
    → MayAnswer (SaysExactly reply_rest) result said goes → (said ≡ []) × (goes ≡ false)
silent {A} result said goes is may =
    let m = subst (λ (a : Answer (ClientReply A)). MayAnswer (SaysExactly reply_rest) a said goes) is may in (m.1.1.0, m.0)

module _ {A K : Type 0} (old new : ClientSide A K) (mid : ClientState A) (result : Answer (ClientReply A)) (cause : ClientFault A) (said : List Packet) (goes : Bool)
    (is : result ≡ answer.Last reply.Silence) (may : MayAnswer (SaysExactly reply_rest) result said goes) (stored : new.fault ≡ Some cause)
    (same : new.client ≡ mid) where
  -- the client rejects a message, after which the session is over
  pub failed : mid.session ≡ over old.client.session → mid.repo ≡ old.client.repo → mid.unborn ≡ old.client.unborn → Fails old new cause said goes
  failed over repo unborn =
      let s = silent result said goes is may in
      record {
        session = ap (λ (c : ClientState A). c.session) same ∙ over;
        repo = ap (λ (c : ClientState A). c.repo) same ∙ repo;
        unborn = ap (λ (c : ClientState A). c.unborn) same ∙ unborn;
        fault = stored;
        all = s.0;
        ended = s.1;
      }

  -- the client does not have enough memory for the next request
  pub lacked : Requests old.client.session old.client.repo.graph.entries mid.session (Err no_memory) → cause ≡ no_memory → mid.repo ≡ old.client.repo → mid.unborn ≡ old.client.unborn
      → LacksMemory old.client old.fault new said goes
  lacked fails is_memory repo unborn =
      let s = silent result said goes is may in
      record {
        fails = subst (λ (c : ClientState A). Requests old.client.session old.client.repo.graph.entries c.session (Err no_memory)) (sym same) fails;
        all = s.0;
        ended = s.1;
        repo = ap (λ (c : ClientState A). c.repo) same ∙ repo;
        unborn = ap (λ (c : ClientState A). c.unborn) same ∙ unborn;
        fault = stored ∙ ap (λ (f : ClientFault A). Some f) is_memory;
      }

module _ {A K : Type 0} (old new : ClientSide A K) (mid : ClientState A) (capabilities : List Capability) (lines said : List Packet) (goes : Bool)
    (says : advert.Says lines capabilities) where
  -- the state of the client after the advertisement
  heard_client : AcceptsAdvert old.client.session capabilities mid.session (Ok tt) → mid.repo ≡ old.client.repo → mid.unborn ≡ old.client.unborn
      → mid ≡ record old.client { session = record old.client.session { offers_unborn = tells_unborn capabilities } }
  heard_client accepts repo unborn =
      let session : SessionState A = record old.client.session { offers_unborn = tells_unborn capabilities } in
      ap (λ (s : SessionState A). record mid { session = s }) accepts.2
      ∙ ap (λ (r : RepoState A). record mid { session = session; repo = r }) repo
      ∙ ap (λ (u : Option Name). record old.client { session = session; unborn = u }) unborn

  -- the client accepts the advertisement
  pub advert_goes : AcceptsAdvert old.client.session capabilities mid.session (Ok tt) → mid.repo ≡ old.client.repo → mid.unborn ≡ old.client.unborn
      → (mid.session.pending ≡ None → mid.session.stage ≢ Over → GoesOn mid old.fault new said goes)
      → AnswersAdvert old new lines said goes
  advert_goes accepts repo unborn goes_on =
      let pending : mid.session.pending ≡ None = ap (λ (s : SessionState A). s.pending) accepts.2 ∙ accepts.1.1 in
      let listing : mid.session.stage ≡ Listing = ap (λ (s : SessionState A). s.stage) accepts.2 ∙ accepts.1.0 in
      let stage : mid.session.stage ≢ Over = λ e. absurd (cc (sym listing ∙ e)) in
      record {
        capabilities = capabilities;
        advertises = record { says = says; fits = accepts.0 };
        goes_on = subst (λ (c : ClientState A). GoesOn c old.fault new said goes) (heard_client accepts repo unborn) (goes_on pending stage);
      }

  -- the client rejects the advertisement
  pub advert_mismatches : (cause : ClientFault A) → IsBegun old.client.session → AcceptsAdvert old.client.session capabilities mid.session (Err cause)
      → (mid.session ≡ over old.client.session → Fails old new cause said goes)
      → MismatchesAdvert old new lines said goes
  advert_mismatches client.NoOpenRequest begun accepts fails = absurd (accepts begun)
  advert_mismatches (client.Message cause) begun accepts fails = record {
    capabilities = capabilities;
    says = says;
    cause = cause;
    why = accepts.0;
    frame = accepts.1;
    fails = fails accepts.2;
  }
  advert_mismatches _ begun accepts fails = absurd accepts

-- an advertisement leaves the number of further messages
pub advert_messages : {A : Type 0} (old new : SessionState A) (capabilities : List Capability) → AcceptsAdvert old capabilities new (Ok tt)
    → messages_of new ≡ messages_of old
advert_messages old new capabilities accepts = ap messages_of accepts.2
