-- A connection whose bytes are known, and whose source and sink do not fail, is a conversation over these bytes.
use Rattle.std.proofs.Common.{◌≡◌, ℕ, ◌<◌, ◌++◌, List, [], length, Bool, false, Option, Some, None, Ok, refl, sym}
use Rattle.std.proofs.Common.{subst, ◌∙◌, inl, inr, append-nil, ◌≤◌, ◌+◌, ◌∷◌, All, Err, ap, ap₂, append_assoc, arith}
use Rattle.std.proofs.lemmas.Bool.{false≢true}
use Rattle.std.specs.List.{flat_map}
use Rattle.gpkt.specs.Change.{Change}
use Rattle.gpkt.specs.PacketReading.{Reads, ReadsPackets}
use Rattle.gpkt.specs.Packets.{Packet, canonical_all}
use Rattle.gpkt.specs.Sending.{Input, IsUp}
use Rattle.gpkt.specs.Laws.{SpellingsSplit}
use Rattle.gpkt.specs.declared.fault.PacketFault.TheVariants as line
use Rattle.ggrammar.specs.MessageBytes.{known_bytes, IsFront, IsOfBytes, LawsOfBytes}
use Rattle.ggrammar.specs.MessageReading.{IsReasonAfter, ReadsRefused, IsReadFailure}
use Rattle.ggrammar.specs.declared.fault.MessageFault.{MessageFault}
use Rattle.ggrammar.specs.declared.fault.Why.{Why}
use Rattle.ggrammar.specs.declared.ends.Ends.{Ends}
use Rattle.ggrammar.specs.Grammar.{Judge}
use Rattle.ggrammar.specs.Limits.{profile}
use Rattle.ggrammar.specs.Kinds.{OneMeaning}
use Rattle.ggrammar.specs.declared.fault.Why.TheVariants as why
use Rattle.grequest.specs.Asked.{Asked, FetchAsked, Empty, Fetches}
use Rattle.grequest.specs.Requests.{brings, judge, Says}
use Rattle.grequest.specs.RequestReading.{IsMissingWhereEmpty}
use Rattle.gobject.specs.Packs.{PackFails, Packs}
use Rattle.gobject.specs.declared.node.Entry.{Entry}
use Rattle.gobject.specs.Objects.{node_at}
use Rattle.ganswer.specs.Answers.{Answers, FetchRefuses, Reply, Fetch}
use Rattle.ganswer.specs.Servers.{Server}
use Rattle.ganswer.specs.declared.fault.ServeFault.{ServeFault}
use Rattle.ganswer.specs.declared.fault.ServeFault.TheVariants as serve
use Rattle.gserver.specs.Conversations.{CannotBegin, Converses, HasEnded, talk_bytes}
use Rattle.gpkt.specs.Sending.{rest_of}
use Rattle.gserver.specs.Exchanges.{Turn, IsRefused, ReadsEmpty, ReadsTurns, Declines, IsTurn, RefusesToAnswer}
use Rattle.gserver.specs.Exchanges.{RefusesToRead}
use Rattle.gserve.specs.Talks.{Stops, Talks, input_of_bytes, last_packets, EndsByOwnFault, HoldsNone, HoldsTurns, IsOwnFault}
use Rattle.gserver.specs.Refusals.{err_packets}
use Rattle.gserver.specs.Serving.{max_requests}
use Rattle.gserve.specs.Laws.{ServingIsTalking}
use Rattle.gserver.specs.declared.serving.End.{End}
use Rattle.gserver.specs.declared.serving.End.TheVariants as end
use Rattle.std.proofs.lemmas.List.Elements.{All-head, All-tail}
use Rattle.gname.specs.declared.formats.Format.{Format}
use Rattle.gdag.specs.Graphs.{Holds}
use Rattle.gwalk.proofs.Tagging.{none_held}
use Rattle.ganswer.proofs.LawLemmas.{none_absent}

-- ---- known unread bytes

lines_left : (old : List ℕ) (new : Option (List ℕ)) (lines : List Packet)
    → ReadsPackets (record { old = Some old; new = new }) lines → (rest : List ℕ) × (new ≡ Some rest)
lines_left old None lines h = absurd h
lines_left old (Some rest) lines h = (rest, refl)

end_left : (old : List ℕ) (new : Option (List ℕ)) → Reads (record { old = Some old; new = new }) (Ok None) → old ≡ []
end_left old None h = absurd h
end_left old (Some rest) h = h.0

reason_left : (judge : Judge) (front : List Packet) (old : List ℕ) (new : Option (List ℕ)) (cause : Why)
    → IsReasonAfter judge brings front (record { old = Some old; new = new }) cause → (rest : List ℕ) × (new ≡ Some rest)
reason_left judge front old (Some rest) cause h = (rest, refl)
reason_left judge front old None (why.Line fault) h = absurd h
reason_left judge front old None why.Ended h = absurd h
reason_left judge front old None cause h = absurd h.1

reading_left : (judge : Judge) (front : List Packet) (old : List ℕ) (new : Option (List ℕ)) (cause : MessageFault)
    → ReadsRefused judge brings front (record { old = Some old; new = new }) cause → (rest : List ℕ) × (new ≡ Some rest)
reading_left judge front old new cause h =
    let mid = lines_left old h.between front h.before in
    reason_left judge front mid.0 new cause.why
    (subst (λ (bytes : Option (List ℕ)). IsReasonAfter judge brings front (record { old = bytes; new = new }) cause.why) mid.1 h.reason)

module _ {A : Type 0} (server : Server A) (fails : PackFails A) (old : List ℕ) (new : Option (List ℕ)) (was down : Bool) where
  refused_left : (cause : ServeFault)
      → IsRefused server fails (record { read = record { old = Some old; new = new }; was_down = was; is_down = down }) cause
      → (rest : List ℕ) × (new ≡ Some rest)
  refused_left (serve.Request cause) h = reading_left (judge profile server.graph.format) h.front old new cause h.refused
  refused_left cause h = lines_left old new h.packets h.lines

-- ---- the requests, and the end of the conversation

-- an input whose bytes before and after reading are known, and whose source has not failed
settled : (Last : Input → Type 0) (input : Input) (left rest : List ℕ) → input.read.new ≡ Some rest → IsUp input
    → Last (rest_of input (Some left)) → Last (record { read = known_bytes left rest; was_down = input.was_down; is_down = false })
settled Last input left rest is up h =
    subst (λ (down : Bool). Last (record { read = known_bytes left rest; was_down = input.was_down; is_down = down })) up
    (subst (λ (new : Option (List ℕ)). Last (record { read = record { old = Some left; new = new }; was_down = input.was_down; is_down = input.is_down })) is h)

-- the requests that were read are a conversation over the known bytes, if the rest of the input ends the conversation
holds : {A : Type 0} (server : Server A) (packs : Packs A) (fails : PackFails A) (ends : Ends) (input : Input) (bytes written : List ℕ)
    (requests : ℕ) (turns : List Turn) (Last : Input → Type 0) (ended : End) → input.read.old ≡ Some bytes
    → Converses server packs input requests turns Last
    → ((left : List ℕ) → Last (rest_of input (Some left)) → Stops server fails (length turns) left ended)
    → written ≡ talk_bytes server.graph.format ends turns ++ canonical_all (last_packets ended)
    → Talks server packs fails ends bytes written ended
holds server packs fails ends input bytes written requests turns Last last is h stops all =
    let read = subst (λ (old : Option (List ℕ)). ReadsTurns server packs (record { old = old; new = h.between }) turns) is h.read in
    let left = lines_left bytes h.between (flat_map (λ (turn : Turn). turn.request) turns) read.lines in
    inl (record {
      turns = turns;
      left = left.0;
      read = subst (λ (new : Option (List ℕ)). ReadsTurns server packs (record { old = Some bytes; new = new }) turns) left.1 read;
      stops = stops left.0 (subst (λ (old : Option (List ℕ)). Last (rest_of input old)) left.1 h.last);
      all = all;
    })

ended_at : {A : Type 0} (server : Server A) (fails : PackFails A) (requests : ℕ) (turns : List Turn) (input : Input) (left : List ℕ)
    → HasEnded requests (rest_of input (Some left)) → requests ≡ length turns → Stops server fails (length turns) left end.Ended
ended_at server fails requests turns input left (inl h) count =
    inl (subst (λ (n : ℕ). n < max_requests) count h.0, end_left left input.read.new h.1.ended)
ended_at server fails requests turns input left (inr h) count = inr (sym count ∙ h.0)

cannot : (input : Input) (bytes : List ℕ) (cause : ServeFault) → CannotBegin input cause → CannotBegin (input_of_bytes bytes bytes) cause
cannot input bytes serve.Memory h = record { read = refl; down = refl }
cannot input bytes (serve.Reader line.Memory) h = record { read = refl; down = refl }
cannot input bytes cause h = absurd h

-- ---- inputs that differ only in whether the source had failed before

module _ {A : Type 0} (server : Server A) (fails : PackFails A) (read : Change) (was before down : Bool) where
  moved_empty : ReadsEmpty server.graph.format (record { read = read; was_down = was; is_down = down })
      → ReadsEmpty server.graph.format (record { read = read; was_down = before; is_down = down })
  moved_empty h = record { packets = h.packets; lines = h.lines; says = h.says; up = h.up }

  moved_refused : (cause : ServeFault) → IsRefused server fails (record { read = read; was_down = was; is_down = down }) cause
      → IsRefused server fails (record { read = read; was_down = before; is_down = down }) cause
  moved_refused (serve.Request cause) h = record { front = h.front; refused = h.refused; source = h.source; begun = h.begun }
  moved_refused cause h =
      record { packets = h.packets; asked = h.asked; lines = h.lines; says = h.says; declines = h.declines; up = h.up }

pub serving_is_talking : {A : Type 0} (packs : Packs A) (fails : PackFails A) → ServingIsTalking A packs fails
serving_is_talking packs fails server ends input output requests end.Closed bytes (turns, room, h, passes) is up well =
    let format = server.graph.format in (
      talk_bytes format ends turns,
      passes,
      holds server packs fails ends input bytes _ requests turns (ReadsEmpty format) end.Closed is h
          (λ left last.
          let rest = lines_left left input.read.new last.packets last.lines in (
            subst (λ (n : ℕ). n < max_requests) h.count room,
            rest.0,
            moved_empty server fails _ _ _ _ (settled (ReadsEmpty format) input left rest.0 rest.1 up last),
          ))
          (sym (append-nil (talk_bytes format ends turns))),
    )
serving_is_talking packs fails server ends input output requests end.Ended bytes (turns, h, passes) is up well = (
  talk_bytes server.graph.format ends turns,
  passes,
  holds server packs fails ends input bytes _ requests turns (HasEnded requests) end.Ended is h
      (λ left last. ended_at server fails requests turns input left last h.count)
      (sym (append-nil (talk_bytes server.graph.format ends turns))),
)
serving_is_talking packs fails server ends input output requests (end.Refused cause) bytes (inl (turns, room, h, passes)) is up well =
    let Last : Input → Type 0 = λ rest. IsRefused server fails rest cause in (
      talk_bytes server.graph.format ends turns ++ canonical_all (err_packets cause),
      passes,
      holds server packs fails ends input bytes _ requests turns Last (end.Refused cause) is h
          (λ left last.
          let rest = refused_left server fails left input.read.new input.was_down input.is_down cause last in (
            subst (λ (n : ℕ). n < max_requests) h.count room,
            rest.0,
            moved_refused server fails _ _ _ _ cause (settled Last input left rest.0 rest.1 up last),
          ))
          refl,
    )
serving_is_talking packs fails server ends input output requests (end.Refused cause) bytes (inr (none, begins, passes)) is up well =
    (canonical_all (err_packets cause), passes, inr (cannot input bytes cause begins, refl))
serving_is_talking packs fails server ends input output requests end.WriteFailed bytes serves is up well = absurd (well refl)

-- ---- the output that the client's bytes determine, if each request has at most one answer

-- each request has at most one answer
abbrev HasOneAnswer : {A : Type 0} → Server A → Packs A → Type 0
HasOneAnswer server packs =
    (asked : Asked) (one other : Reply) → Answers server packs asked one → Answers server packs asked other → one ≡ other

-- ---- the first id that the server does not hold

one_absent : {A : Type 0} (g : List (Entry A)) (front others : List (List ℕ)) (a b : List ℕ) (rest after : List (List ℕ))
    → All (Holds g) front → All (Holds g) others → node_at g a ≡ None → node_at g b ≡ None
    → front ++ a ∷ rest ≡ others ++ b ∷ after → a ≡ b
one_absent g [] [] a b rest after ours theirs absent missing same = cc
one_absent g [] (x ∷ others) a b rest after ours theirs absent missing same =
    absurd (none_held (node_at g a) (subst (Holds g) (let e : x ≡ a = cc in e) (All-head (Holds g) x others theirs)) absent)
one_absent g (x ∷ front) [] a b rest after ours theirs absent missing same =
    absurd (none_held (node_at g b) (subst (Holds g) (let e : x ≡ b = cc in e) (All-head (Holds g) x front ours)) missing)
one_absent g (x ∷ front) (y ∷ others) a b rest after ours theirs absent missing same =
    one_absent g front others a b rest after (All-tail (Holds g) x front ours) (All-tail (Holds g) y others theirs) absent missing (cc)

no_wants : (a : List ℕ) (front rest : List (List ℕ)) → [] ≡ front ++ a ∷ rest → ⊥
no_wants a [] rest same = cc
no_wants a front rest same = cc

-- ---- the reason to refuse a request, other than the server's own faults

module _ {A : Type 0} (server : Server A) (packs : Packs A) (fails : PackFails A) where
  one_fetch_fault : (asked : FetchAsked) (cause reason : ServeFault) → FetchRefuses server fails asked cause
      → FetchRefuses server fails asked reason → ¬ IsOwnFault cause → ¬ IsOwnFault reason → cause ≡ reason
  one_fetch_fault asked serve.NoWants serve.NoWants h k own other = refl
  one_fetch_fault asked serve.NoWants (serve.NotOurs id) h k own other = absurd (no_wants id k.front k.rest (sym h ∙ k.parts))
  one_fetch_fault asked (serve.NotOurs id) serve.NoWants h k own other = absurd (no_wants id h.front h.rest (sym k ∙ h.parts))
  one_fetch_fault asked (serve.NotOurs id) (serve.NotOurs next) h k own other =
      ap serve.NotOurs (one_absent server.graph.entries h.front k.front id next h.rest k.rest h.held k.held h.absent k.absent (sym h.parts ∙ k.parts))
  one_fetch_fault asked (serve.Request cause) reason h k own other = absurd h
  one_fetch_fault asked cause (serve.Request reason) h k own other = absurd k
  one_fetch_fault asked serve.NoWants reason h k own other = absurd (other tt)
  one_fetch_fault asked (serve.NotOurs id) reason h k own other = absurd (other tt)
  one_fetch_fault asked cause reason h k own other = absurd (own tt)

  one_fault : (asked : Asked) (cause reason : ServeFault) → Declines server fails asked cause → Declines server fails asked reason
      → ¬ IsOwnFault cause → ¬ IsOwnFault reason → cause ≡ reason
  one_fault (Fetches asked) cause reason h k own other = one_fetch_fault asked cause reason h k own other
  one_fault asked cause reason h k own other = absurd h

  -- a request that has an answer is refused only because of the server's own fault
  answered_fetch : (asked : FetchAsked) (answer : Reply) (cause : ServeFault) → Answers server packs (Fetches asked) answer
      → FetchRefuses server fails asked cause → ¬ IsOwnFault cause → ⊥
  answered_fetch asked (Fetch reply) serve.NoWants h k own = h.can.some k
  answered_fetch asked (Fetch reply) (serve.NotOurs id) h k own = none_absent server.graph.entries asked.wants id h.can.held k
  answered_fetch asked (Fetch reply) (serve.Request cause) h k own = k
  answered_fetch asked (Fetch reply) cause h k own = own tt
  answered_fetch asked answer cause h k own = absurd h

  answered_not_refused : (asked : Asked) (answer : Reply) (cause : ServeFault) → Answers server packs asked answer
      → Declines server fails asked cause → ¬ IsOwnFault cause → ⊥
  answered_not_refused (Fetches asked) answer cause h k own = answered_fetch asked answer cause h k own
  answered_not_refused asked answer cause h k own = k

-- ---- refusals for a reason that the bytes determine

-- the bytes determine the reason, if the source has not failed and memory did not run out
of_bytes : (cause : Why) → IsReadFailure false false cause → ¬ (cause ≡ why.Memory) → IsOfBytes cause
of_bytes (why.Line line.Io) h other = absurd (false≢true h.1)
of_bytes (why.Line line.Failed) h other = absurd (false≢true h)
of_bytes (why.Line line.Memory) h other = absurd h
of_bytes why.Memory h other = absurd (other refl)
of_bytes cause h other = tt

module _ {A : Type 0} (server : Server A) (fails : PackFails A) where
  data Refusal (bytes rest : List ℕ) : ServeFault → Type 0 where
    reading : (cause : MessageFault) → IsOfBytes cause.why → RefusesToRead server.graph.format (input_of_bytes bytes rest) cause
        → Refusal bytes rest (serve.Request cause)
    answering : (cause : ServeFault) → ¬ IsOwnFault cause → RefusesToAnswer server fails (input_of_bytes bytes rest) cause
        → Refusal bytes rest cause

  refusal_of : (bytes rest : List ℕ) (cause : ServeFault) → ¬ IsOwnFault cause → IsRefused server fails (input_of_bytes bytes rest) cause
      → Refusal bytes rest cause
  refusal_of bytes rest (serve.Request cause) own h = reading cause (of_bytes cause.why h.source own) h
  refusal_of bytes rest serve.NoWants own h = answering serve.NoWants own h
  refusal_of bytes rest (serve.NotOurs id) own h = answering (serve.NotOurs id) own h
  refusal_of bytes rest cause own h = absurd (own tt)

-- ---- one request at the start of the bytes

front_of : (bytes rest : List ℕ) (lines : List Packet) → ReadsPackets (known_bytes bytes rest) lines → IsFront lines bytes rest
front_of bytes rest lines h = record { front = h.0; parts = h.1; spelt = h.2 }

module _ (format : Format) (laws : LawsOfBytes (judge profile format)) (meaning : OneMeaning (Says profile format)) (missing : IsMissingWhereEmpty profile format) where
  one_request : (bytes rest after : List ℕ) (lines others : List Packet) (one other : Asked)
      → ReadsPackets (known_bytes bytes rest) lines → Says profile format lines one → ReadsPackets (known_bytes bytes after) others
      → Says profile format others other → (others ≡ lines) × (after ≡ rest) × (other ≡ one)
  one_request bytes rest after lines others one other read says next asks =
      let same = laws.no_other lines others bytes rest after says.whole (front_of bytes rest lines read) (record { whole = asks.whole; bytes = next }) in
      (same.0, same.1, meaning lines other one (subst (λ (packets : List Packet). Says profile format packets other) same.0 asks) says)

  -- if the bytes begin with a request, reading does not refuse the bytes
  not_unread : (bytes rest after : List ℕ) (lines : List Packet) (asked : Asked) (cause : MessageFault)
      → ReadsPackets (known_bytes bytes rest) lines → Says profile format lines asked → IsOfBytes cause.why
      → RefusesToRead format (input_of_bytes bytes after) cause → ⊥
  not_unread bytes rest after lines asked cause read says certain h =
      laws.refused brings h.front lines bytes after rest cause h.refused certain (front_of bytes rest lines read) says.whole

  -- if the bytes begin with a request, the bytes are not empty
  not_missing : (bytes rest : List ℕ) (lines : List Packet) (asked : Asked) → ReadsPackets (known_bytes bytes rest) lines
      → Says profile format lines asked → bytes ≡ [] → ⊥
  not_missing bytes rest lines asked read says none =
      laws.ended lines bytes [] rest (none, refl) (front_of bytes rest lines read) says.whole

  -- reading does not refuse empty bytes
  none_unread : (bytes after : List ℕ) (cause : MessageFault) → IsOfBytes cause.why
      → RefusesToRead format (input_of_bytes bytes after) cause → bytes ≡ [] → ⊥
  none_unread bytes after cause certain h none =
      let is = missing bytes after (Err cause) (h.front, h.refused) (certain, λ ended. let begun = h.begun ended in omega arith) in
      let read = is.1 none in
      absurd cc

-- ---- the end of a conversation

module _ {A : Type 0} (packs : Packs A) (fails : PackFails A) (server : Server A) (laws : LawsOfBytes (judge profile server.graph.format))
    (meaning : OneMeaning (Says profile server.graph.format)) (missing : IsMissingWhereEmpty profile server.graph.format) where
  -- if the bytes begin with a request, a refusal of the bytes is a refusal to answer this request
  refusal_asks : (bytes rest after : List ℕ) (lines : List Packet) (asked : Asked) (cause : ServeFault)
      → ReadsPackets (known_bytes bytes rest) lines → Says profile server.graph.format lines asked → Refusal server fails bytes after cause
      → Declines server fails asked cause × ¬ IsOwnFault cause
  refusal_asks bytes rest after lines asked fault read says (reading cause certain h) =
      absurd (not_unread server.graph.format laws meaning missing bytes rest after lines asked cause read says certain h)
  refusal_asks bytes rest after lines asked fault read says (answering cause own h) =
      let same = one_request server.graph.format laws meaning missing bytes rest after lines h.packets asked h.asked read says h.lines h.says in
      (subst (λ (a : Asked). Declines server fails a cause) same.2 h.declines, own)

  one_refusal : (bytes rest after : List ℕ) (cause reason : ServeFault) → Refusal server fails bytes rest cause
      → Refusal server fails bytes after reason → cause ≡ reason
  one_refusal bytes rest after one other (reading cause certain h) (reading reason sure k) =
      ap serve.Request (laws.one_refusal brings h.front k.front bytes rest after cause reason h.refused k.refused certain sure).0
  one_refusal bytes rest after one other (reading cause certain h) (answering reason own k) =
      absurd (not_unread server.graph.format laws meaning missing bytes after rest k.packets k.asked cause k.lines k.says certain h)
  one_refusal bytes rest after one other (answering cause own h) k =
      let next = refusal_asks bytes rest after h.packets h.asked other h.lines h.says k in
      one_fault server packs fails h.asked cause other h.declines next.0 own next.1

  -- empty bytes are not refused
  none_refused : (bytes after : List ℕ) (cause : ServeFault) → Refusal server fails bytes after cause → bytes ≡ [] → ⊥
  none_refused bytes after fault (reading cause certain h) none =
      none_unread server.graph.format laws meaning missing bytes after cause certain h none
  none_refused bytes after fault (answering cause own h) none =
      not_missing server.graph.format laws meaning missing bytes after h.packets h.asked h.lines h.says none

  module _ (ends : Ends) where
    -- a lone flush packet is not refused
    closed_refused : (n : ℕ) (bytes : List ℕ) (cause : ServeFault) → Stops server fails n bytes end.Closed
        → Stops server fails n bytes (end.Refused cause) → ¬ IsOwnFault cause → ⊥
    closed_refused n bytes cause (room, rest, h) (more, after, k) own =
        (refusal_asks bytes rest after h.packets Empty cause h.lines h.says (refusal_of server fails bytes after cause own k)).0

    ended_refused : (n : ℕ) (bytes : List ℕ) (cause : ServeFault) → Stops server fails n bytes end.Ended
        → Stops server fails n bytes (end.Refused cause) → ¬ IsOwnFault cause → ⊥
    ended_refused n bytes cause (inl (room, none)) (more, after, k) own =
        none_refused bytes after cause (refusal_of server fails bytes after cause own k) none
    ended_refused n bytes cause (inr all) (more, after, k) own = omega arith

    closed_ended : (n : ℕ) (bytes : List ℕ) → Stops server fails n bytes end.Closed
        → Stops server fails n bytes end.Ended → ⊥
    closed_ended n bytes (room, rest, h) (inl (more, none)) =
        not_missing server.graph.format laws meaning missing bytes rest h.packets Empty h.lines h.says none
    closed_ended n bytes (room, rest, h) (inr all) = omega arith

    one_end : (n : ℕ) (bytes : List ℕ) (ended last : End) → Stops server fails n bytes ended
        → Stops server fails n bytes last → ¬ EndsByOwnFault ended → ¬ EndsByOwnFault last → ended ≡ last
    one_end n bytes end.Closed end.Closed h k own other = refl
    one_end n bytes end.Closed end.Ended h k own other = absurd (closed_ended n bytes h k)
    one_end n bytes end.Closed (end.Refused reason) h k own other = absurd (closed_refused n bytes reason h k other)
    one_end n bytes end.Ended end.Closed h k own other = absurd (closed_ended n bytes k h)
    one_end n bytes end.Ended end.Ended h k own other = refl
    one_end n bytes end.Ended (end.Refused reason) h k own other = absurd (ended_refused n bytes reason h k other)
    one_end n bytes (end.Refused cause) end.Closed h k own other = absurd (closed_refused n bytes cause k h own)
    one_end n bytes (end.Refused cause) end.Ended h k own other = absurd (ended_refused n bytes cause k h own)
    one_end n bytes (end.Refused cause) (end.Refused reason) (room, rest, h) (more, after, k) own other =
        ap end.Refused (one_refusal bytes rest after cause reason (refusal_of server fails bytes rest cause own h)
        (refusal_of server fails bytes after reason other k))
    one_end n bytes end.WriteFailed last h k own other = absurd h
    one_end n bytes _ end.WriteFailed h k own other = absurd k

    at_most : (n : ℕ) (bytes : List ℕ) (ended : End) → Stops server fails n bytes ended → n ≤ max_requests
    at_most n bytes end.Ended (inl (room, none)) = omega arith
    at_most n bytes end.Ended (inr all) = omega arith
    at_most n bytes end.WriteFailed h = absurd h
    at_most n bytes _ h = omega (arith, h.0)

    -- an answered request does not end the conversation
    goes_on : (n : ℕ) (bytes rest : List ℕ) (turn : Turn) (ended : End) → n < max_requests
        → ReadsPackets (known_bytes bytes rest) turn.request → IsTurn server packs turn → Stops server fails n bytes ended
        → ¬ EndsByOwnFault ended → ⊥
    goes_on n bytes rest turn end.Closed below read is (room, after, h) own =
        let same = one_request server.graph.format laws meaning missing bytes rest after turn.request h.packets turn.asked Empty read is.says h.lines h.says in
        is.asks (sym same.2)
    goes_on n bytes rest turn end.Ended below read is (inl (room, none)) own =
        not_missing server.graph.format laws meaning missing bytes rest turn.request turn.asked read is.says none
    goes_on n bytes rest turn end.Ended below read is (inr all) own = omega arith
    goes_on n bytes rest turn (end.Refused cause) below read is (room, after, h) own =
        let refused = refusal_asks bytes rest after turn.request turn.asked cause read is.says (refusal_of server fails bytes after cause own h) in
        answered_not_refused server packs fails turn.asked turn.answer cause is.answers refused.0 own
    goes_on n bytes rest turn end.WriteFailed below read is h own = h

    -- ---- comparing conversations request by request

    -- the first turn of a list, and the other turns
    record Splits (bytes left : List ℕ) (turn : Turn) (turns : List Turn) : Type 0 where
      mid : List ℕ
      read : ReadsPackets (known_bytes bytes mid) turn.request
      is : IsTurn server packs turn
      later : ReadsTurns server packs (known_bytes mid left) turns

    split_first : SpellingsSplit → (bytes left : List ℕ) (turn : Turn) (turns : List Turn)
        → ReadsTurns server packs (known_bytes bytes left) (turn ∷ turns) → Splits bytes left turn turns
    split_first split bytes left turn turns h =
        let parts = split turn.request (flat_map (λ (t : Turn). t.request) turns) h.lines.0 h.lines.2 in record {
          mid = parts.1 ++ left;
          read = (parts.0, h.lines.1 ∙ (ap (λ (xs : List ℕ). xs ++ left) parts.2 ∙ append_assoc parts.0 parts.1 left), parts.3);
          is = All-head (IsTurn server packs) turn turns h.each;
          later = record { lines = (parts.1, refl, parts.4); each = All-tail (IsTurn server packs) turn turns h.each };
        }

    abbrev turn_with : List Packet → Asked → Reply → Turn
    turn_with request asked answer = record { request = request; asked = asked; answer = answer }

    same_turn : (t u : Turn) → u.request ≡ t.request → u.asked ≡ t.asked → u.answer ≡ t.answer → t ≡ u
    same_turn t u request asked answer =
        ap (λ (r : List Packet). turn_with r t.asked t.answer) (sym request)
        ∙ ap₂ (λ (a : Asked) (r : Reply). turn_with u.request a r) (sym asked) (sym answer)

    -- two turns that begin the same bytes are equal
    one_turn : HasOneAnswer server packs → (bytes rest after : List ℕ) (t u : Turn) → ReadsPackets (known_bytes bytes rest) t.request
        → IsTurn server packs t → ReadsPackets (known_bytes bytes after) u.request → IsTurn server packs u → (t ≡ u) × (after ≡ rest)
    one_turn answers bytes rest after t u read is next are =
        let same = one_request server.graph.format laws meaning missing bytes rest after t.request u.request t.asked u.asked read is.says next are.says in
        let answer : u.answer ≡ t.answer =
        answers t.asked u.answer t.answer (subst (λ (a : Asked). Answers server packs a u.answer) same.2 are.answers) is.answers in
        (same_turn t u same.0 same.2 answer, same.1)

    nothing_left : (bytes left : List ℕ) → ReadsTurns server packs (known_bytes bytes left) [] → left ≡ bytes
    nothing_left bytes left h =
        let none : h.lines.0 ≡ [] = h.lines.2 in
        sym (h.lines.1 ∙ ap (λ (xs : List ℕ). xs ++ left) none)

    same_turns : HasOneAnswer server packs → SpellingsSplit → (before n m : ℕ) (turns others : List Turn) (bytes left rest : List ℕ)
        (ended last : End) → n ≡ before + length turns → m ≡ before + length others
        → ReadsTurns server packs (known_bytes bytes left) turns → ReadsTurns server packs (known_bytes bytes rest) others
        → Stops server fails n left ended → Stops server fails m rest last
        → ¬ EndsByOwnFault ended → ¬ EndsByOwnFault last → (turns ≡ others) × (ended ≡ last)
    same_turns answers split before n m [] [] bytes left rest ended last is are read next h k own other =
        let count : m ≡ n = are ∙ sym is in
        let here = subst (λ (xs : List ℕ). Stops server fails n xs ended) (nothing_left bytes left read) h in
        let there = subst (λ (c : ℕ). Stops server fails c bytes last) count
        (subst (λ (xs : List ℕ). Stops server fails m xs last) (nothing_left bytes rest next) k) in
        (refl, one_end n bytes ended last here there own other)
    same_turns answers split before n m [] (u ∷ others) bytes left rest ended last is are read next h k own other =
        let here = subst (λ (xs : List ℕ). Stops server fails n xs ended) (nothing_left bytes left read) h in
        let first = split_first split bytes rest u others next in
        let most : m ≤ max_requests = at_most m rest last k in
        absurd (goes_on n bytes first.mid u ended (omega arith) first.read first.is here own)
    same_turns answers split before n m (t ∷ turns) [] bytes left rest ended last is are read next h k own other =
        let there = subst (λ (xs : List ℕ). Stops server fails m xs last) (nothing_left bytes rest next) k in
        let first = split_first split bytes left t turns read in
        let most : n ≤ max_requests = at_most n left ended h in
        absurd (goes_on m bytes first.mid t last (omega arith) first.read first.is there other)
    same_turns answers split before n m (t ∷ turns) (u ∷ others) bytes left rest ended last is are read next h k own other =
        let first = split_first split bytes left t turns read in
        let second = split_first split bytes rest u others next in
        let same = one_turn answers bytes first.mid second.mid t u first.read first.is second.read second.is in
        let later = subst (λ (xs : List ℕ). ReadsTurns server packs (known_bytes xs rest) others) same.1 second.later in
        let all = same_turns answers split (before + 1) n m turns others first.mid left rest ended last (omega arith) (omega arith)
        first.later later h k own other in
        (ap (λ (x : Turn). x ∷ turns) same.0 ∙ ap (λ (xs : List Turn). u ∷ xs) all.0, all.1)

    -- ---- the whole conversation

    one_talk : HasOneAnswer server packs → SpellingsSplit → (bytes one other : List ℕ) (ended last : End)
        → HoldsTurns server packs fails ends bytes one ended → HoldsTurns server packs fails ends bytes other last
        → ¬ EndsByOwnFault ended → ¬ EndsByOwnFault last → (one ≡ other) × (ended ≡ last)
    one_talk answers split bytes one other ended last h k own next =
        let all = same_turns answers split 0 (length h.turns) (length k.turns) h.turns k.turns bytes h.left k.left ended last (omega arith) (omega arith)
        h.read k.read h.stops k.stops own next in
        (h.all ∙ (ap₂ (λ (t : List Turn) (e : End). talk_bytes server.graph.format ends t ++ canonical_all (last_packets e)) all.0 all.1 ∙ sym k.all), all.1)

    -- if memory runs out at the start, the conversation ends because of the server's own fault
    begins : (bytes written : List ℕ) (ended : End) → HoldsNone bytes written ended → ¬ EndsByOwnFault ended → ⊥
    begins bytes written (end.Refused (serve.Request cause)) h own = h.0
    begins bytes written (end.Refused serve.NoWants) h own = h.0
    begins bytes written (end.Refused (serve.NotOurs id)) h own = h.0
    begins bytes written (end.Refused cause) h own = own tt
    begins bytes written _ h own = h

    pub talks_are_one : SpellingsSplit → (bytes one other : List ℕ) (ended last : End) → HasOneAnswer server packs
        → Talks server packs fails ends bytes one ended → Talks server packs fails ends bytes other last
        → ¬ EndsByOwnFault ended → ¬ EndsByOwnFault last → (one ≡ other) × (ended ≡ last)
    talks_are_one split bytes one other ended last answers (inl h) (inl k) own next =
        one_talk answers split bytes one other ended last h k own next
    talks_are_one split bytes one other ended last answers (inr h) talk own next = absurd (begins bytes one ended h own)
    talks_are_one split bytes one other _ last answers talk (inr k) own next = absurd (begins bytes other last k next)
