-- Accepting or rejecting a reply, step by step.
use Rattle.std.proofs.Common.{◌≡◌, ◌≤◌, ℕ, Bool, true, false, not, List, ◌++◌, length, All, Contains, Option, Some, None, Result, Ok, Err, IfErr, IfOk, inr}
use Rattle.std.proofs.Common.{MatchResult, refl, sym, ap, subst, true≢false, arith, ◌∙◌}
use Rattle.std.specs.Option.{option_map}
use Rattle.std.proofs.lemmas.Cmp.{nat_list_eq_equiv}
use Rattle.std.proofs.lemmas.List.Elements.{All-append, All-contains}
use Rattle.std.proofs.lemmas.Map.Made.{length-le_from_is_member}
use Rattle.gname.specs.Ids.{IsIdOf}
use Rattle.gpkt.specs.Change.{Change}
use Rattle.gpkt.specs.PacketReading.{Reader}
use Rattle.ggrammar.specs.Grammar.{IsOpen, IsWhole, Open, Whole}
use Rattle.ggrammar.specs.MessageReading.{IsReason, LeavesReader, TakesPacket}
use Rattle.ggrammar.specs.declared.fault.Why.{Why}
use Rattle.ggrammar.specs.declared.message.Step.{Step}
use Rattle.ggrammar.specs.declared.message.Step.TheVariants as step
use Rattle.glsreply.specs.LsReplies.{LsReply}
use Rattle.gobject.specs.declared.node.Entry.{Entry}
use Rattle.gdag.proofs.IdLists.{any_from_contains, contains_from_any}
use Rattle.gpkt.specs.Packets.{Packet}
use Rattle.gfetchreply.specs.FetchReplies.{Reading, FetchReply, Acks, Ready, Pack, Says, ack_texts, band_payloads, brings_into, judge, reply_by, reply_of}
use Rattle.gfetchreply.specs.FetchHeads.{FetchHead, acknowledged_by, head_of, pack_of}
use Rattle.gfetchreply.specs.FetchHeads as head
use Rattle.gfetchreply.specs.ReplyReading.{HasHead, HasRead}
use Rattle.gfetchreply.specs.Views.{reading_in}
use Rattle.gfetchreply.specs.declared.reader.FetchReader.{FetchReader}
use Rattle.gfetchreply.specs.steps.ReplyState.{HoldsReply, kept_in, kept_of}
use Rattle.gfetchreply.proofs.ReplyLemmas.{has_read}
use Rattle.gfetchreply.proofs.StateLemmas.{held_by}
use Rattle.gobject.specs.Packs.{Indexes, IndexFails}
use Rattle.gdag.specs.Graphs.{History}
use Rattle.gdag.specs.Laws.{DistinctAreOnce}
use Rattle.gdag.specs.Levels.{distinct_of}
use Rattle.gdag.specs.Reach.{Grows}
use Rattle.gdag.proofs.Growing.{grows_none, inserts_grows}
use Rattle.gdag.specs.declared.fault.GraphFault.{GraphFault}
use Rattle.gdag.specs.declared.fault.GraphFault.TheVariants as graph
use Rattle.grefs.specs.RefLists.{RefList}
use Rattle.gclientrepo.specs.declared.fault.RepoFault.TheVariants as repo
use Rattle.gclientrepo.specs.Repos.{RepoState}
use Rattle.grequest.specs.Asked.{FetchAsked, Fetches, is_direct}
use Rattle.grequest.specs.RequestValues.{asked_by_request}
use Rattle.grequest.specs.declared.request.Request.{Request}
use Rattle.gsession.specs.Sessions.{SessionState, AreCommons, IsOpenFetch, LeavesReplies, after_fault}
use Rattle.gsession.specs.steps.Calls.{AnswersLs, AnswersRead, AnswersRefs, AnswersReply, FitsHead, IsAcksFault, IsStrangeAck, MayHaveFed}
use Rattle.gsession.specs.Readers.{HoldsObjects}
use Rattle.gsession.specs.declared.reader.ObjectsReader.{ObjectsReader}
use Rattle.gsession.specs.TakingRefs.{AcceptsRefs, AwaitsRefs, IsLsFault, IsUnaccepted, IsRefsFault, ReadsRefs}
use Rattle.gsession.specs.TakingReplies.{AcceptsRead, AddsCommons, Awaits, HasPack, IsFirstStrange, IsReplyFault, IsTakeFault, ReadsFetch}
use Rattle.gsession.specs.TakingReplies.{RefusesPack, TakesHead, after_acks, reading_for}
use Rattle.gsession.specs.declared.fault.ClientFault.{ClientFault}
use Rattle.gsession.specs.declared.fault.ClientFault.TheVariants.{Index, Message, NoOpenRequest, Repo, StrangeAck, TooManyWants}
use Rattle.gsession.specs.declared.stage.Stage.{Stage}
use Rattle.gsession.specs.declared.stage.Stage.TheVariants.{Fetching}
use Rattle.gsession.specs.declared.taken.LsTaken.{LsTaken}
use Rattle.gsession.specs.declared.taken.Taken.{Taken}
use Rattle.gsession.specs.declared.taken.Taken.TheVariants.{Round, PackTaken}
use Rattle.gsession.proofs.CommonLemmas.{all_distinct, all_of_members}

-- ---- replies and their acknowledgments

-- what holds without a fault also holds with one
pub any_err : {X E P : Type 0} (r : Result X E) → P → IfErr r (λ _. P)
any_err (Ok _) p = tt
any_err (Err _) p = p

pub acks_reply : (reply : FetchReply) (ids : List (List ℕ)) → head.Acks ids ≡ head_of reply → reply ≡ Acks ids
acks_reply (Acks also) ids same = cc
acks_reply (Ready also pack) ids same = cc
acks_reply (Pack pack) ids same = cc

-- ---- common ids

pub are_commons : {A : Type 0} (s : SessionState A) (asked : FetchAsked) (acks list : List (List ℕ)) → DistinctAreOnce
    → IsOpenFetch s asked
    → All (Contains asked.haves) acks → list ≡ distinct_of (s.commons ++ acks)
    → AreCommons s.options.limits s.format list
are_commons s asked acks list law opened named is =
    let haves = asked.haves in
    let ids = distinct_of (s.commons ++ acks) in
    let all : All (Contains haves) ids =
    all_distinct law (Contains haves) (s.commons ++ acks)
    (All-append (Contains haves) s.commons acks opened.commons named) in
    let few : length ids ≤ length haves =
    length-le_from_is_member nat_list_eq_equiv ids haves (law (s.commons ++ acks)).once (λ a there.
    any_from_contains haves a (All-contains (Contains haves) ids a all (contains_from_any ids a there))) in
    rw is (record {
      ids = all_of_members (IsIdOf s.format) haves ids opened.ids all;
      few = omega (arith, few, opened.few);
      once = (law (s.commons ++ acks)).once;
    })

-- ---- replies that fit their request

-- a reply with only acknowledgments answers a request that is not direct
acks_not_direct : (reading : Reading) (packets : List Packet) (ids : List (List ℕ)) (direct : Bool)
    → reading.direct ≡ direct → Acks ids ≡ reply_of reading packets → direct ≡ false
acks_not_direct reading packets ids false is e = refl
acks_not_direct reading packets ids true is e =
    let p : Acks ids ≡ reply_by (record reading { direct = true }) (ack_texts reading.direct packets) (band_payloads reading.direct packets) =
    subst (λ (b : Bool). Acks ids ≡ reply_by (record reading { direct = b }) (ack_texts reading.direct packets) (band_payloads reading.direct packets)) is e in
    absurd (cc p)

pub fits_acks : (direct given : Bool) → direct ≡ given → not direct ≡ true → given ≡ false
fits_acks false given is goes = sym is
fits_acks true given is goes = absurd (cc goes)

module _ {A : Type 0} where
  -- ---- the ls-refs reply

  refs_fault : (s : SessionState A) (g : List (Entry A)) (change : Change) (reply : LsReply) (fault : ClientFault A)
      → AwaitsRefs s → ReadsRefs s change reply
      → IsRefsFault s g reply fault → IsLsFault s g change fault
  refs_fault s g change reply (Message fault) waits reads is = (waits, inr (reply, reads, is))
  refs_fault s g change reply TooManyWants waits reads is = (waits, (reply, reads, is))
  refs_fault s g change reply (Repo fault) waits reads is = (waits, (reply, reads, is))
  refs_fault s g change reply _ waits reads is = absurd is

  pub refs_answer : (old : SessionState A) (g : List (Entry A)) (change : Change) (reply : LsReply)
      (new : SessionState A) (result : Result (LsTaken A) (ClientFault A))
      → AwaitsRefs old → ReadsRefs old change reply → AnswersRefs old g reply new result
      → AnswersLs old g change new result
  refs_answer old g change reply new (Ok taken) waits reads answers = (waits, (reply, reads, answers))
  refs_answer old g change reply new (Err fault) waits reads answers =
      (refs_fault old g change reply fault waits reads answers.0, answers.1)

  -- the state of the reader after an ls-refs reply
  pub refs_leaves : {S : Type 0} (is_down : S → Bool) (was now : Reader S) (old : SessionState A)
      (g : List (Entry A)) (reply : LsReply) (new : SessionState A) (result : Result (LsTaken A) (ClientFault A))
      → LeavesReader {M = Unit {0}} is_down was now (Ok tt) → AnswersRefs old g reply new result
      → LeavesReplies is_down was now result
  refs_leaves is_down was now old g reply new (Ok taken) leaves answers = leaves
  refs_leaves is_down was now old g reply new (Err NoOpenRequest) leaves answers = absurd answers.0
  refs_leaves is_down was now old g reply new (Err (Message fault)) leaves answers =
      rw answers.0.why
      ((leaves.0, leaves.2), leaves.1, λ failed. absurd (true≢false (sym failed ∙ leaves.0)))
  refs_leaves is_down was now old g reply new (Err _) leaves answers = leaves

  -- ---- the fetch reply

  -- clearing the open request and storing the common ids gives the session `after_acks`
  pub acked : (stage : Stage) (now : Option (Request A)) (was s : SessionState A) (acks list : List (List ℕ))
      → now ≡ None → was ≡ s → list ≡ distinct_of (s.commons ++ acks)
      → record was { stage = stage; pending = option_map asked_by_request now; commons = list }
      ≡ after_acks s stage acks
  acked stage now was s acks list none same is =
      ap (λ (p : Option (Request A)).
      record was { stage = stage; pending = option_map asked_by_request p; commons = list }) none
      ∙ ap (λ (o : SessionState A). record o { stage = stage; pending = None; commons = list }) same
      ∙ ap (λ (l : List (List ℕ)). record s { stage = stage; pending = None; commons = l }) is

  -- an acknowledged id that is not a have is a reason to reject the acknowledgments
  pub strange_acks : (haves acks : List (List ℕ)) (fault : ClientFault A) → IsStrangeAck haves acks fault
      → IsAcksFault haves acks fault
  strange_acks haves acks (StrangeAck id) is = is
  strange_acks haves acks _ is = absurd is

  -- ---- the repository

  pub same_repo : (new old : RepoState A) → new.graph ≡ old.graph → new.refs ≡ old.refs → new.known ≡ old.known
      → new ≡ old
  same_repo new old graph refs known =
      ap (λ (g : History A). record new { graph = g }) graph
      ∙ ap (λ (r : RefList). record old { refs = r; known = new.known }) refs
      ∙ ap (λ (k : List Bool). record old { known = k }) known

  module _ (indexes : Indexes A) (index_fails : IndexFails) where
    takes_grow : (old : SessionState A) (repo_old : RepoState A) (reply : FetchReply) (new : SessionState A)
        (repo_new : RepoState A) (taken : Taken)
        → TakesHead indexes index_fails old repo_old reply new repo_new taken
        → Grows repo_old.graph.entries repo_new.graph.entries
    takes_grow old repo_old reply new repo_new (Round common) takes =
        grows_none repo_old.graph.entries repo_new.graph.entries (ap (λ (r : RepoState A). r.graph.entries) takes.3)
    takes_grow old repo_old reply new repo_new (PackTaken added) takes =
        inserts_grows repo_old.graph.format repo_old.graph.entries takes.2.0 repo_new.graph.entries takes.2.2.adds.1

    -- the graph only gains objects, whatever the result of reading the reply
    pub reply_grows : (old : SessionState A) (repo_old : RepoState A) (change : Change) (new : SessionState A)
        (repo_new : RepoState A) (result : Result Taken (ClientFault A))
        → AnswersReply indexes index_fails old repo_old change new repo_new result
        → Grows repo_old.graph.entries repo_new.graph.entries
    reply_grows old repo_old change new repo_new (Ok taken) answers =
        takes_grow old repo_old answers.2.0 new repo_new taken answers.2.2.1
    reply_grows old repo_old change new repo_new (Err fault) answers =
        grows_none repo_old.graph.entries repo_new.graph.entries (ap (λ (r : RepoState A). r.graph.entries) answers.2)

    -- ---- faults

    pub acks_fault : (haves acks : List (List ℕ)) (s : RepoState A) (reply : FetchReply) (fault : ClientFault A)
        → acknowledged_by reply ≡ acks → ¬ (HasPack reply)
        → IsAcksFault haves acks fault → IsReplyFault indexes index_fails haves s reply fault
    acks_fault haves acks s reply (StrangeAck id) same none is =
        subst (λ (l : List (List ℕ)). IsFirstStrange haves l id) (sym same) is
    acks_fault haves acks s reply (Repo (repo.Graph graph.Memory)) same none is =
        (subst (λ (l : List (List ℕ)). All (Contains haves) l) (sym same) is, λ has. absurd (none has))
    acks_fault haves acks s reply _ same none is = absurd is

    pub strange_fault : (haves acks : List (List ℕ)) (s : RepoState A) (reply : FetchReply) (fault : ClientFault A)
        → acknowledged_by reply ≡ acks
        → IsStrangeAck haves acks fault → IsReplyFault indexes index_fails haves s reply fault
    strange_fault haves acks s reply (StrangeAck id) same is =
        subst (λ (l : List (List ℕ)). IsFirstStrange haves l id) (sym same) is
    strange_fault haves acks s reply _ same is = absurd is

    pub graph_fault : (haves : List (List ℕ)) (s : RepoState A) (reply : FetchReply) (fault : GraphFault)
        → All (Contains haves) (acknowledged_by reply) → HasPack reply
        → RefusesPack indexes index_fails s (pack_of reply) fault
        → IsReplyFault indexes index_fails haves s reply (Repo (repo.Graph fault))
    graph_fault haves s reply graph.Memory named has refuses = (named, λ _. (refuses.0, refuses.1))
    graph_fault haves s reply _ named has refuses = (named, has, refuses)

    -- ---- replies with only acknowledgments

    pub acks_answer : (haves acks : List (List ℕ)) (old : SessionState A) (s : RepoState A) (reply : FetchReply)
        (new : SessionState A) (result : Result Taken (ClientFault A))
        → reply ≡ Acks acks
        → MatchResult result
        (λ taken. All (Contains haves) acks × (new ≡ after_acks old Fetching acks)
        × (taken ≡ Round (length new.commons)))
        (λ fault. IsAcksFault haves acks fault × (new ≡ old))
        → AnswersRead indexes index_fails haves old s reply new s result
    acks_answer haves acks old s reply new (Ok taken) is answers =
        subst (λ r. AnswersRead indexes index_fails haves old s r new s (Ok taken)) (sym is)
        (subst (λ t. AnswersRead indexes index_fails haves old s (Acks acks) new s (Ok t)) (sym answers.2)
        (answers.0, ((λ none. none), answers.1, refl, refl)))
    acks_answer haves acks old s reply new (Err fault) is answers = (
      acks_fault haves acks s reply fault (ap acknowledged_by is) (λ has. subst HasPack is has) answers.0,
      answers.1,
      refl,
    )

    -- ---- the result of reading a complete reply

    read_fault : (s : SessionState A) (repo_old : RepoState A) (change : Change) (asked : FetchAsked)
        (reply : FetchReply) (fault : ClientFault A)
        → Awaits s asked → ReadsFetch (reading_for s asked) change reply
        → IsReplyFault indexes index_fails asked.haves repo_old reply fault
        → IsTakeFault indexes index_fails s repo_old change fault
    read_fault s repo_old change asked reply (Index fault) waits reads is = (asked, waits, (reply, reads, is))
    read_fault s repo_old change asked reply (StrangeAck id) waits reads is = (asked, waits, (reply, reads, is))
    read_fault s repo_old change asked reply (Repo (repo.Graph fault)) waits reads is =
        (asked, waits, (reply, reads, is))
    read_fault s repo_old change asked reply _ waits reads is = absurd is

    pub read_answer : (old : SessionState A) (repo_old : RepoState A) (change : Change) (asked : FetchAsked)
        (reply : FetchReply) (new : SessionState A) (repo_new : RepoState A)
        (result : Result Taken (ClientFault A)) → Awaits old asked → ReadsFetch (reading_for old asked) change reply
        → AnswersRead indexes index_fails asked.haves old repo_old reply new repo_new result
        → AnswersReply indexes index_fails old repo_old change new repo_new result
    read_answer old repo_old change asked reply new repo_new (Ok taken) waits reads answers =
        (asked, waits, (reply, reads, answers))
    read_answer old repo_old change asked reply new repo_new (Err fault) waits reads answers =
        (read_fault old repo_old change asked reply fault waits reads answers.0, answers.1, answers.2)

    -- the state of the reader after a fetch reply
    pub read_leaves : {S : Type 0} (is_down : S → Bool) (was now : Reader S) (haves : List (List ℕ))
        (old : SessionState A) (repo_old : RepoState A) (reply : FetchReply) (new : SessionState A)
        (repo_new : RepoState A) (result : Result Taken (ClientFault A))
        → LeavesReader {M = Unit {0}} is_down was now (Ok tt)
        → AnswersRead indexes index_fails haves old repo_old reply new repo_new result
        → LeavesReplies is_down was now result
    read_leaves is_down was now haves old repo_old reply new repo_new (Ok taken) leaves answers = leaves
    read_leaves is_down was now haves old repo_old reply new repo_new (Err NoOpenRequest) leaves answers =
        absurd answers.0
    read_leaves is_down was now haves old repo_old reply new repo_new (Err (Message fault)) leaves answers =
        absurd answers.0
    read_leaves is_down was now haves old repo_old reply new repo_new (Err _) leaves answers = leaves

    -- a rejected reply that the session did not read itself
    pub unaccepted_reply : (haves : List (List ℕ)) (old mid new : SessionState A) (repo_old repo_new : RepoState A)
        (reply : FetchReply) (fault given : ClientFault A)
        → AnswersRead indexes index_fails haves old repo_old reply mid repo_new (Err fault)
        → given ≡ fault → new ≡ after_fault mid fault
        → AcceptsRead indexes index_fails haves old repo_old reply new repo_new (Err given)
    unaccepted_reply haves old mid new repo_old repo_new reply fault given answers same is =
        subst (λ (f : ClientFault A). AcceptsRead indexes index_fails haves old repo_old reply new repo_new (Err f)) (sym same)
        (answers.0, is ∙ ap (λ (s : SessionState A). after_fault s fault) answers.1, answers.2)

  refs_unaccepted : (s : SessionState A) (g : List (Entry A)) (reply : LsReply) (fault : ClientFault A)
      → AwaitsRefs s → IsRefsFault s g reply fault → IsUnaccepted s g reply fault
  refs_unaccepted s g reply (Message fault) waits is = (waits, is)
  refs_unaccepted s g reply TooManyWants waits is = (waits, is)
  refs_unaccepted s g reply (Repo fault) waits is = (waits, is)
  refs_unaccepted s g reply _ waits is = absurd is

  pub unaccepted : (old mid new : SessionState A) (g : List (Entry A)) (reply : LsReply) (fault given : ClientFault A)
      → AwaitsRefs old → AnswersRefs old g reply mid (Err fault) → given ≡ fault → new ≡ after_fault mid fault
      → AcceptsRefs old g reply new (Err given)
  unaccepted old mid new g reply fault given waits answers same is =
      subst (λ (f : ClientFault A). AcceptsRefs old g reply new (Err f)) (sym same)
      (refs_unaccepted old g reply fault waits answers.0, is ∙ ap (λ (s : SessionState A). after_fault s fault) answers.1)

  -- ---- a reply with only acknowledgments

  pub acks_added : (haves acks : List (List ℕ)) (old new : SessionState A) (r : RepoState A) (result : Result Taken (ClientFault A))
      → MatchResult result
      (λ taken. All (Contains haves) acks × (new ≡ after_acks old Fetching acks)
      × (taken ≡ Round (length new.commons)))
      (λ fault. IsAcksFault haves acks fault × (new ≡ old))
      → IfOk result (AddsCommons old r new r)
  acks_added haves acks old new r (Ok (Round common)) answers = (acks, answers.1, refl)
  acks_added haves acks old new r (Ok (PackTaken added)) answers = tt
  acks_added haves acks old new r (Err fault) answers = tt

  -- ---- replies that fit their request

  pub head_fits : (s : SessionState A) (asked : FetchAsked) (packets : List Packet) (reply : FetchReply)
      → Says (reading_for s asked) packets reply → FitsHead asked (head_of reply)
  head_fits s asked packets (Acks ids) says =
      acks_not_direct (reading_for s asked) packets ids (is_direct asked) refl says.says
  head_fits s asked packets (Ready ids pack) says = tt
  head_fits s asked packets (Pack pack) says = tt

  same_asked : (s : SessionState A) (one other : FetchAsked) → Awaits s one → Awaits s other → one ≡ other
  same_asked s one other waits also =
      let same : Some (Fetches one) ≡ Some (Fetches other) = sym waits ∙ also in cc

  pub acks_fit : (s : SessionState A) (one other : FetchAsked) (direct : Bool) → direct ≡ is_direct one → Awaits s one → Awaits s other
      → is_direct other ≡ false → not direct ≡ true
  acks_fit s one other direct is waits also fits =
      ap not (is ∙ ap is_direct (same_asked s one other waits also) ∙ fits)

-- ---- the reader of a fetch reply

-- packets that encode a reply encode no other reply
said_once : (reading : Reading) (packets : List Packet) (one other : FetchReply) → Says reading packets one → Says reading packets other → one ≡ other
said_once reading packets one other says also = says.says ∙ sym also.says

module _ {F : Type 0} (taken : F → List ℕ → Type 0) (reading : Reading) (packets : List Packet) (found : FetchHead) (feed : F) (reply : FetchReply)
    (read : HasRead taken reading packets found feed) (says : Says reading packets reply) where
  -- the reply of the reader is the reply that the packets encode, and the indexer read its pack
  pub same_head : found ≡ head_of reply
  same_head = read.is_head ∙ ap head_of (said_once reading packets read.reply reply read.says says)

  pub same_pack : taken feed (pack_of reply)
  same_pack = subst (λ (r : FetchReply). taken feed (pack_of r)) (said_once reading packets read.reply reply read.says says) read.pack

-- the head of the reply that the packets encode, and the state of the indexer, which read the pack of the reply
pub reads_objects : {A F : Type 0} (fed : F → List ℕ → Type 0) (index_fails : IndexFails) (reading : Reading) (reader : ObjectsReader F A) (packets : List Packet) (found : FetchHead)
    → IsWhole (judge reading) packets → HoldsObjects fed index_fails reading reader packets
    → ((lines : List Packet) → IsWhole (judge (reading_in reader.reply.reading)) lines
    → kept_in reader.reply.sections ≡ kept_of reader.reply.reading.limits reader.reply.reading.format reader.reply.reading.direct lines
    → HasHead (reading_in reader.reply.reading) lines found)
    → HasRead (MayHaveFed fed index_fails) reading packets found reader.feed
reads_objects fed index_fails reading reader packets found whole holds finished =
    let own = reading_in reader.reply.reading in
    subst (λ (r : Reading). HasRead (MayHaveFed fed index_fails) r packets found reader.feed) holds.0
    (has_read (MayHaveFed fed index_fails) (λ one other. Unit {0}) own (kept_in reader.reply.sections) reader.feed packets found
    (finished packets (subst (λ (r : Reading). IsWhole (judge r) packets) (sym holds.0) whole) holds.1.counts) holds.1)

module _ {A F S : Type 0} (fed : F → List ℕ → Type 0) (index_fails : IndexFails) (taken : S → List ℕ → Type 0) (same : S → S → Type 0) (reading : Reading) (old new : ObjectsReader F A)
    (sink next : S) (front : List Packet) (packet : Packet)
    (gives : (bytes : List ℕ) → MayHaveFed fed index_fails old.feed bytes → taken sink bytes)
    (back : (bytes : List ℕ) → taken next bytes → MayHaveFed fed index_fails new.feed bytes)
    (still : new.reply.reading ≡ old.reply.reading)
    (holds : HoldsObjects fed index_fails reading old front) where
  -- the reader of a reply accepts or rejects the packet, with a sink that has received the same bytes
  abbrev Heard : Result Step Why → Type 0
  Heard result =
      TakesPacket (judge (reading_in old.reply.reading)) (brings_into false (reading_in old.reply.reading))
      (λ (reader : FetchReader A) packets. HoldsReply taken same (reading_in reader.reading) (kept_in reader.sections) next packets)
      (λ reader packets. Unit {0}) front packet new.reply result

  holds_after : (packets : List Packet)
      → HoldsReply taken same (reading_in new.reply.reading) (kept_in new.reply.sections) next packets
      → HoldsObjects fed index_fails reading new packets
  holds_after packets held = (
    ap reading_in still ∙ holds.0,
    held_by taken same (MayHaveFed fed index_fails) (λ one other. Unit {0}) _ _ next new.feed packets back held,
  )

  takes_after : (result : Result Step Why) → Heard result
      → TakesPacket (judge reading) (brings_into false reading) (HoldsObjects fed index_fails reading)
      (λ reader packets. Unit {0}) front packet new result
  takes_after (Ok step.Open) h =
      (subst (λ (r : Reading). judge r front packet ≡ Open) holds.0 h.0, holds_after _ h.1)
  takes_after (Ok step.Whole) h =
      (subst (λ (r : Reading). judge r front packet ≡ Whole) holds.0 h.0, holds_after _ h.1)
  takes_after (Err why) h =
      (subst (λ (r : Reading). IsReason (judge r front packet) (brings_into false r front packet) why) holds.0 h.0, tt)

  pub takes_objects : (result : Result Step Why)
      → (IsOpen (judge (reading_in old.reply.reading)) front
      → HoldsReply taken same (reading_in old.reply.reading) (kept_in old.reply.sections) sink front → Heard result)
      → IsOpen (judge reading) front
      → TakesPacket (judge reading) (brings_into false reading) (HoldsObjects fed index_fails reading)
      (λ reader packets. Unit {0}) front packet new result
  takes_objects result takes opened =
      takes_after result (takes (subst (λ (r : Reading). IsOpen (judge r) front) (sym holds.0) opened)
      (held_by (MayHaveFed fed index_fails) (λ one other. Unit {0}) taken same _ _ old.feed sink front gives holds.1))
