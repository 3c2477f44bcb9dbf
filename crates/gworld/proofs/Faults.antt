-- The reasons for the client to reject a complete fetch reply to the open request, if no bytes were forged and the
-- packer and the indexer are faithful.
use Rattle.std.proofs.Common.{[], ◌≡◌, ◌⊎◌, ℕ, ◌≤◌, Bool, false, List, ◌∷◌, length, All, Contains, Some, Ok, Err, inl}
use Rattle.std.proofs.Common.{inr, refl, sym, ap, subst, ◌∙◌, arith, take}
use Rattle.std.proofs.lemmas.Bool.{false≢true}
use Rattle.std.proofs.lemmas.Bool.Decides.{leb_tells}
use Rattle.std.proofs.lemmas.List.{take_all}
use Rattle.std.proofs.lemmas.List.Elements.{All-contains, Contains-append_right, Contains-get_or}
use Rattle.gname.specs.Limits.{max_pack}
use Rattle.gname.specs.declared.formats.Format.{Format}
use Rattle.gpkt.specs.Change.{Change}
use Rattle.gpkt.specs.Packets.{Packet}
use Rattle.gpkt.specs.declared.fault.PacketFault.TheVariants as line
use Rattle.ggrammar.specs.Faults.{why_row}
use Rattle.ggrammar.specs.Grammar.{Judge}
use Rattle.ggrammar.specs.Kinds.{ReadsExactly, SaysAtFront}
use Rattle.ggrammar.specs.Limits.{profile}
use Rattle.ggrammar.specs.MessageBytes.{IsFront, IsOfBytes, known_bytes}
use Rattle.ggrammar.specs.MessageReading.{IsReadFailure, IsReasonAfter, ReadsRefused}
use Rattle.ggrammar.specs.declared.ends.Ends.{Ends}
use Rattle.ggrammar.specs.declared.ends.Ends.TheVariants.{Plain}
use Rattle.glsreply.specs.LsReplies as refs
use Rattle.ggrammar.specs.declared.fault.MessageFault.{MessageFault}
use Rattle.ggrammar.specs.declared.fault.Why.{Why}
use Rattle.ggrammar.specs.declared.fault.Why.TheVariants as why
use Rattle.gfetchreply.specs.FetchReplies.{FetchReply, Reading, Acks, Ready, Pack, Says, brings, brings_into}
use Rattle.gfetchreply.specs.FetchReplies.{canonical_reply, judge}
use Rattle.gfetchreply.specs.FetchHeads.{acknowledged_by, pack_of}
use Rattle.gfetchreply.specs.Laws.{IsInAnyLimit, IsRefusedOverLimit}
use Rattle.gfetchreply.specs.Values.{default_limit}
use Rattle.gobject.specs.declared.node.Entry.{Entry}
use Rattle.gobject.specs.declared.fault.IndexFault.{IndexFault}
use Rattle.gobject.specs.declared.fault.IndexFault.TheVariants as index
use Rattle.gobject.specs.Faults.{index_fault_row}
use Rattle.gdag.specs.Faults.{graph_fault_row}
use Rattle.gdag.specs.Graphs.{IsGraph}
use Rattle.gdag.specs.Insert.{IsRefused}
use Rattle.gdag.specs.Laws.{AgreeingEntriesFit}
use Rattle.gdag.specs.Reach.{Agree}
use Rattle.gdag.specs.declared.fault.GraphFault.{GraphFault}
use Rattle.gdag.specs.declared.fault.GraphFault.TheVariants as graph
use Rattle.gclientrepo.specs.Repos.{RepoState}
use Rattle.gclientrepo.specs.declared.fault.RepoFault.TheVariants as repo
use Rattle.grequest.specs.Asked.{Fetches, FetchAsked}
use Rattle.ganswer.specs.Answers.{Fetch as Objects}
use Rattle.ganswer.specs.FetchAnswers.{FetchAnswer}
use Rattle.ganswer.specs.Laws.{IsEnough}
use Rattle.ganswer.specs.Servers.{IsServer, Server}
use Rattle.gsession.specs.Sessions.{SessionState}
use Rattle.gsession.specs.TakingReplies.{Awaits, HasPack, IsFirstStrange, IsReplyFault, IsTakeFault, ReadsFetch}
use Rattle.gsession.specs.TakingReplies.{RefusesPack, reading_for}
use Rattle.gsession.specs.declared.fault.ClientFault.{ClientFault}
use Rattle.gsession.specs.declared.fault.ClientFault.TheVariants as client
use Rattle.gworld.specs.Promises.{IsTakenOrDeclined, MayDecline}
use Rattle.gworld.specs.Promises.{round as is_round, after_acks as is_pack, direct as is_direct_pack}
use Rattle.gworld.specs.Sound.{IsUnforgedAndFaithful, IsSoundFetch}
use Rattle.gworld.specs.Taking.{IsAtHand, TakesObjects, code_of}
use Rattle.gworld.specs.Worlds.{PackTools, WorldState, reply_bytes}
use Rattle.gworld.specs.declared.outcome.Outcome.{Outcome}
use Rattle.gworld.specs.declared.outcome.Outcome.TheVariants.{Round, PackTaken, Fault}
use Rattle.gworld.proofs.Delivering.{any_reading, kept_fetch, largest, read_is_sent, reply_fits, sends}
use Rattle.gworld.proofs.Reading.{front_all, objects_bytes, objects_written}
use Rattle.gworld.proofs.Sessions.{WorldLaws}

pub record FaultLaws (A : Type 0) : Type 0 where
  pub exactly : (reading : Reading) → ReadsExactly (judge reading) (brings reading) (Says reading)
  pub any_limit : IsInAnyLimit
  pub over_limit : IsRefusedOverLimit
  pub fit : AgreeingEntriesFit A
  pub refs_exactly : (format : Format) (ends : Ends) → ReadsExactly (refs.judge format ends) refs.brings
      (refs.Says format ends)

-- ---- accepted replies

module _ {A : Type 0} (tools : PackTools A) (r : RepoState A) where
  round_taken : (reply : FetchReply) (common : ℕ) → ¬ (HasPack reply) → IsTakenOrDeclined tools r reply (Round common)
  round_taken (Acks ids) common none = is_round
  round_taken (Ready ids pack) common none = absurd (none tt)
  round_taken (Pack pack) common none = absurd (none tt)

  pack_taken : (reply : FetchReply) (added : ℕ) → HasPack reply → IsTakenOrDeclined tools r reply (PackTaken added)
  pack_taken (Acks ids) added has = absurd has
  pack_taken (Ready ids pack) added has = is_pack
  pack_taken (Pack pack) added has = is_direct_pack

  declined : (reply : FetchReply) (number : ℕ) → MayDecline tools r reply number
      → IsTakenOrDeclined tools r reply (Fault number)
  declined reply number why = why

pub err_is_no_ok : {T E : Type 0} (e : E) (t : T) → Err e ≡ Ok t → ⊥
err_is_no_ok e t wrong = cc

-- ---- reading the reply

-- reading from memory fails only because of the bytes, or for lack of memory
pub why_cases : (w : Why) → IsReadFailure false false w → (w ≡ why.Memory) ⊎ IsOfBytes w
why_cases (why.Line line.Io) at = absurd (false≢true at.1)
why_cases (why.Line line.Failed) at = absurd (false≢true at)
why_cases (why.Line line.Memory) at = absurd at
why_cases (why.Line fault) at = inr tt
why_cases why.Memory at = inl refl
why_cases w at = inr tt

-- if a message is rejected because of its bytes, it does not matter which packets need memory
module _ (judge : Judge) (one other : List Packet → Packet → Bool) (front : List Packet) where
  reason_of_bytes : (change : Change) (w : Why) → IsOfBytes w → IsReasonAfter judge one front change w
      → IsReasonAfter judge other front change w
  reason_of_bytes change (why.Line fault) certain is = is
  reason_of_bytes change why.Memory certain is = absurd certain
  reason_of_bytes change w certain is = is

  refused_for_bytes : (change : Change) (fault : MessageFault) → IsOfBytes fault.why
      → ReadsRefused judge one front change fault → ReadsRefused judge other front change fault
  refused_for_bytes change fault certain is = record {
    between = is.between;
    goes = is.goes;
    unfinished = is.unfinished;
    frame = is.frame;
    before = is.before;
    reason = reason_of_bytes (record { old = is.between; new = change.new }) fault.why certain is.reason;
  }

-- the parameters with which the client reads the reply to this request
abbrev limited : Format → FetchAsked → Reading
limited format asked = record (any_reading format asked) { limit = default_limit }

-- a session with the default limits reads the reply with the parameters `limited`
reading_is : {A : Type 0} (s : SessionState A) (format : Format) (asked : FetchAsked) → s.format ≡ format
    → s.limit ≡ default_limit → s.ends ≡ Plain → s.options.limits ≡ profile → reading_for s asked ≡ limited format asked
reading_is s format asked f l e o = cc

-- if each acknowledged id is a have of the request, none is rejected as unknown (`IsFirstStrange`)
none_strange : (haves acks : List (List ℕ)) (id : List ℕ) → All (Contains haves) acks → IsFirstStrange haves acks id → ⊥
none_strange haves acks id named first =
    let among : Contains acks id = subst (λ (ids : List (List ℕ)). Contains ids id) (sym first.parts)
    (Contains-append_right first.front (id ∷ first.rest) id (Contains-get_or (id ∷ first.rest) 0 id (omega arith))) in
    first.strange (All-contains (Contains haves) acks id named among)

module _ {A : Type 0} {tools : PackTools A} (answers : WorldLaws tools) (laws : FaultLaws A) where
  module _ (r : RepoState A) (format : Format) (asked : FetchAsked) (reply : FetchReply) (front : List Packet)
      (left : List ℕ) (fault : MessageFault)
      (says : Says (any_reading format asked) (canonical_reply Plain reply) reply)
      (spelt : IsFront (canonical_reply Plain reply) (objects_bytes reply) []) where
    -- a reply whose pack is within the limit is not rejected because of its bytes
    within_limit : ReadsRefused (judge (limited format asked)) (brings (limited format asked)) front
        (known_bytes (objects_bytes reply) left) fault
        → IsOfBytes fault.why → length (pack_of reply) ≤ default_limit → ⊥
    within_limit refused certain short =
        let reading = limited format asked in
        let lines = canonical_reply Plain reply in
        let here = laws.any_limit (any_reading format asked) default_limit lines reply says short in
        let there : SaysAtFront (Says reading) (objects_bytes reply) [] reply = (lines, spelt, here) in
        err_is_no_ok fault reply
        ((laws.exactly reading (objects_bytes reply) left [] (Err fault) reply (front, refused) certain).1 there).0

    refused_told : (number : ℕ) → ReadsRefused (judge (limited format asked)) (brings_into false (limited format asked))
        front (known_bytes (objects_bytes reply) left) fault
        → number ≡ (why_row fault.why).code → (fault.why ≡ why.Memory) ⊎ IsOfBytes fault.why
        → MayDecline tools r reply number
    refused_told number refused is (inl memory) =
        inr (inr (inl (is ∙ ap (λ (w : Why). (why_row w).code) memory)))
    refused_told number refused is (inr certain) =
        let reading = limited format asked in
        let kept = refused_for_bytes (judge reading) (brings_into false reading) (brings reading) front
        (known_bytes (objects_bytes reply) left) fault certain refused in
        let over : fault.why ≡ why.Limit = laws.over_limit reading max_pack profile (canonical_reply Plain reply) front reply
        (objects_bytes reply) left [] fault says spelt kept certain in
        elim (leb_tells (length (pack_of reply)) default_limit) [
          | inl short ↦ absurd (within_limit kept certain short.1)
          | inr long ↦ inl (is ∙ ap (λ (w : Why). (why_row w).code) over, long.1)
        ]

  -- ---- accepting the reply

  graph_number : (r : RepoState A) (reply : FetchReply) (number : ℕ) (fault : GraphFault)
      → number ≡ (graph_fault_row fault).0
      → (RefusesPack tools.indexes tools.index_fails r (pack_of reply) fault × (fault ≡ graph.TooMany))
      ⊎ (fault ≡ graph.Memory) → MayDecline tools r reply number
  graph_number r reply number fault is (inl (refuses, many)) = inr (inl (
    is ∙ ap (λ (f : GraphFault). (graph_fault_row f).0) many,
    subst (RefusesPack tools.indexes tools.index_fails r (pack_of reply)) many refuses,
  ))
  graph_number r reply number fault is (inr none) =
      inr (inr (inr (inl (is ∙ ap (λ (f : GraphFault). (graph_fault_row f).0) none))))

  -- the graph rejects a reply only for lack of memory, or because it rejects the objects of the reply's pack
  graph_declined : (haves : List (List ℕ)) (r : RepoState A) (read : FetchReply) (fault : GraphFault)
      → IsReplyFault tools.indexes tools.index_fails haves r read (client.Repo (repo.Graph fault))
      → (fault ≡ graph.Memory) ⊎ (HasPack read × RefusesPack tools.indexes tools.index_fails r (pack_of read) fault)
  graph_declined haves r read graph.Memory declined = inl refl
  graph_declined haves r read fault declined = inr (declined.1, declined.2)

  -- the premises for the arrival of a complete reply to the open request
  pub record IsWhole (w : WorldState A) (s : SessionState A) (server : Server A) (asked : FetchAsked)
      (reply : FetchReply) : Type 0 where
    pub honest : IsUnforgedAndFaithful tools w
    pub agree : Agree server.graph.entries w.repo.graph.entries
    pub is : IsServer server
    pub format : server.graph.format ≡ w.repo.graph.format
    pub session_format : s.format ≡ w.repo.graph.format
    pub limit : s.limit ≡ default_limit
    pub ends : s.ends ≡ Plain
    pub limits : s.options.limits ≡ profile
    pub request : IsSoundFetch w asked
    pub is_answer : FetchAnswer server tools.packs asked reply
    pub waits : Awaits s asked

  module _ {w : WorldState A} {s : SessionState A} {server : Server A} {asked : FetchAsked} {reply : FetchReply}
      (is : IsWhole w s server asked reply) (count : ℕ) where
    same_awaited : (other : FetchAsked) → Awaits s other → other ≡ asked
    same_awaited other also = let same : Some (Fetches other) ≡ Some (Fetches asked) = sym also ∙ is.waits in cc

    -- the reply that is read equals the reply that was sent
    read_whole : (read : FetchReply) (also : FetchAsked) (left : List ℕ) → ReadsFetch (reading_for s also)
        (known_bytes (take count (reply_bytes (Objects reply))) left) read → read ≡ reply
    read_whole read also left reads =
        let kept = kept_fetch answers w server count left is.is (reading_for s also) (Fetches asked) (Objects reply)
        read (is.format ∙ sym is.session_format) is.ends is.is_answer is.request reads in
        let same : Objects read ≡ Objects reply = sym kept.is_reply in cc

    enough_of : HasPack reply → IsEnough server tools.packs asked (pack_of reply)
    enough_of has = answers.enough server asked (pack_of reply) is.is is.is_answer.can
        (sends answers server asked reply has is.is_answer.replies)

    -- the indexer fails to read the pack only if out of memory
    index_fault : (fault : IndexFault) → IsEnough server tools.packs asked (pack_of reply)
        → tools.index_fails (pack_of reply) fault → fault ≡ index.Memory
    index_fault fault enough fails =
        let faithful = is.honest.faithful in
        let same = faithful.packs_image enough.list (pack_of reply) enough.entries enough.packed in
        faithful.reads_each enough.list fault enough.entries
        (subst (λ (bytes : List ℕ). tools.index_fails bytes fault) same fails)

    -- the client's graph rejects the objects of the pack only if it is full or out of memory
    graph_fault : (fault : GraphFault) → IsEnough server tools.packs asked (pack_of reply)
        → RefusesPack tools.indexes tools.index_fails w.repo (pack_of reply) fault
        → (fault ≡ graph.TooMany) ⊎ (fault ≡ graph.Memory)
    graph_fault fault enough refuses =
        let g = w.repo.graph.entries in
        let format = w.repo.graph.format in
        let same = read_is_sent answers refuses.0 is.honest enough refuses.1 in
        let refused = subst (λ (list : List (Entry A)). IsRefused format g list fault) same refuses.2 in
        laws.fit server.graph.entries g enough.list format fault
        (subst (λ (f : Format). IsGraph (record { format = f; entries = enough.list })) is.format enough.graph) is.agree
        enough.nodes refused

    take_fault : (left : List ℕ) (fault : ClientFault A) (number : ℕ) → length (reply_bytes (Objects reply)) ≤ count
        → IsTakeFault tools.indexes tools.index_fails s w.repo
        (known_bytes (take count (reply_bytes (Objects reply))) left) fault
        → IsAtHand fault → number ≡ code_of fault → MayDecline tools w.repo reply number
    take_fault left client.NoOpenRequest number all fault at same = absurd (fault.0 (asked, is.waits))
    take_fault left (client.Message cause) number all fault at same =
        let bytes = objects_bytes reply in
        let any = any_reading server.graph.format asked in
        let reading : reading_for s fault.0 ≡ limited server.graph.format asked =
        ap (λ (f : FetchAsked). reading_for s f) (same_awaited fault.0 fault.1)
        ∙ reading_is s server.graph.format asked (is.session_format ∙ sym is.format) is.limit is.ends
        is.limits in
        let refused = subst (λ (b : List ℕ). ReadsRefused (judge (reading_for s fault.0))
        (brings_into false (reading_for s fault.0)) fault.2.0 (known_bytes b left) cause) (take_all count bytes all)
        fault.2.1 in
        let refused_too = subst (λ (r : Reading). ReadsRefused (judge r) (brings_into false r) fault.2.0
        (known_bytes bytes left) cause) reading refused in
        let written = objects_written answers.reading any reply refl largest
        (reply_fits answers is.is is.request.few is.is_answer) in
        refused_told w.repo server.graph.format asked reply fault.2.0 left cause written.0
        (front_all written.1) number refused_too same (why_cases cause.why at)
    take_fault left (client.StrangeAck id) number all fault at same =
        let read = read_whole fault.2.0 fault.0 left fault.2.1 in
        let also = same_awaited fault.0 fault.1 in
        let strange = subst (λ (f : FetchAsked). IsFirstStrange f.haves (acknowledged_by fault.2.0) id) also
        fault.2.2 in
        absurd (none_strange asked.haves (acknowledged_by reply) id
        (answers.acks server asked reply is.is_answer).offered
        (subst (λ (r : FetchReply). IsFirstStrange asked.haves (acknowledged_by r) id) read strange))
    take_fault left (client.Index cause) number all fault at same =
        let read = read_whole fault.2.0 fault.0 left fault.2.1 in
        let fails = subst (λ (r : FetchReply). tools.index_fails (pack_of r) cause) read fault.2.2.2 in
        let memory = index_fault cause (enough_of (subst HasPack read fault.2.2.1)) fails in
        inr (inr (inr (inr (
          same ∙ ap (λ (f : IndexFault). (index_fault_row f).0) memory,
          subst (tools.index_fails (pack_of reply)) memory fails,
        ))))
    take_fault left (client.Repo (repo.Graph cause)) number all fault at same =
        let read = read_whole fault.2.0 fault.0 left fault.2.1 in
        graph_number w.repo reply number cause same
        (elim (graph_declined fault.0.haves w.repo fault.2.0 cause fault.2.2) [
          | inl memory ↦ inr memory
          | inr refuses ↦
              (let here = subst (λ (r : FetchReply). RefusesPack tools.indexes tools.index_fails w.repo (pack_of r)
              cause) read refuses.1 in
              elim (graph_fault cause (enough_of (subst HasPack read refuses.0)) here) [
                | inl many ↦ inl (here, many)
                | inr none ↦ inr none
              ])
        ])
    take_fault left _ number all fault at same = absurd fault

    -- the client accepts a complete reply to the open request, or rejects it for one of the allowed reasons
    pub whole_taken : (after : SessionState A) (outcome : Outcome) (r : RepoState A)
        → length (reply_bytes (Objects reply)) ≤ count
        → TakesObjects tools.indexes tools.index_fails s w.repo (take count (reply_bytes (Objects reply))) outcome after
        r → IsTakenOrDeclined tools w.repo reply outcome
    whole_taken after (Round common) r all takes = round_taken tools w.repo reply common
        (subst (λ (x : FetchReply). ¬ (HasPack x)) (read_whole takes.1.2.0 takes.1.0 takes.0 takes.1.2.1)
        takes.1.2.2.1.0)
    whole_taken after (PackTaken added) r all takes = pack_taken tools w.repo reply added
        (subst HasPack (read_whole takes.1.2.0 takes.1.0 takes.0 takes.1.2.1) takes.1.2.2.1.0)
    whole_taken after (Fault number) r all takes =
        declined tools w.repo reply number (take_fault takes.0 takes.1 number all takes.2.0 takes.3 takes.4)
    whole_taken after _ r all takes = absurd takes
