-- A dialogue of a server with a borrowed packer, as an exchange or as a connection.
use Rattle.std.proofs.Common.{◌≡◌, ◌≢◌, ◌⊎◌, ◌∙◌, ℕ, ◌+◌, ◌<◌, Bool, true, false, List, [], ◌∷◌, ◌++◌, codes, length, map, Option, Some, None, Result, Ok, Err, inl, inr, refl, sym, ap, subst, arith, append-nil, append_assoc, length-append}
use Rattle.std.specs.Prelude.{IsSome, nat_lt}
use Rattle.std.proofs.lemmas.Bool.{ltb-false}
use Rattle.std.proofs.lemmas.List.{nil_from_length}
use Rattle.std.proofs.lemmas.List.Elements.{All-push}
use Rattle.std.specs.Io.KnownBytes.{Appends}
use Rattle.gname.specs.declared.formats.Format.{Format}
use Rattle.gobject.specs.Packs.{PackFails, Packs}
use Rattle.gpkt.specs.Devices.{KeepsPassed}
use Rattle.gpkt.specs.PacketReading.{ReadsPackets}
use Rattle.gpkt.specs.Packets.{Bytes, Packet, Flush, canonical, canonical_all, digit_count, digits_of, line_feed}
use Rattle.gpkt.specs.Sending.{Input, IsUnwritten, Output, Passes, SendsAndFails, SendsSome, output_of, rest_of}
use Rattle.gpkt.proofs.Joins.{reads_join}
use Rattle.gpkt.proofs.SendingLemmas.{appends_join, appends_known, appends_to, fails_after, is_some, passes_join, passes_still}
use Rattle.ggrammar.specs.Endings.{ends_with}
use Rattle.ggrammar.specs.Texts.{text_packet}
use Rattle.ggrammar.specs.declared.ends.Ends.{Ends}
use Rattle.grequest.specs.Asked.{Asked, Empty, Fetches, Ls}
use Rattle.glsreply.specs.LsReplies.{LsReply, canonical_reply as ls_packets, ref_packet, unborn_packets}
use Rattle.gfetchreply.specs.FetchReplies.{Acks, FetchReply, Pack, Ready, ack_packet, canonical_reply as fetch_packets, heading_packet, nak_if_none}
use Rattle.ganswer.specs.Answers.{Answers, Fetch, Ls as LsAnswered, Reply}
use Rattle.ganswer.specs.OnePack.{OnePack, has_failed}
use Rattle.ganswer.specs.Servers.{Server}
use Rattle.gtalk.specs.Connections.{PassesBytes}
use Rattle.gtalk.specs.declared.fault.TalkFault.{TalkFault}
use Rattle.gtalk.specs.declared.fault.TalkFault.TheVariants.{Io, Memory}
use Rattle.gtalk.proofs.Driving.{four_bytes, longer, longer_first}
use Rattle.gtalk.proofs.Moves.{canonical_joins}
use Rattle.gserver.specs.Conversations.{Converses, HasEnded, Serves, advert_packets, talk, talk_bytes}
use Rattle.gserver.specs.Exchanges.{Exchanges, IsDue, IsRefused, IsTurn, ReadsEmpty, ReadsTurn, Turn, reply_packets, reply as due_reply, refusal as due_refusal, ServesOne}
use Rattle.gserver.specs.Packings.{ReportsLastPacking, ReportsPacking}
use Rattle.gserver.specs.Refusals.{err_packets, err_text}
use Rattle.gserver.specs.Serving.{max_requests}
use Rattle.gserver.specs.declared.lent_side.Closing.{Closing}
use Rattle.gserver.specs.declared.lent_side.LentSide.{LentSide}
use Rattle.gserver.specs.declared.serving.End.{End}
use Rattle.gserver.specs.declared.serving.End.TheVariants as end
use Rattle.gserver.specs.declared.serving.ExchangeEnd.{ExchangeEnd}
use Rattle.gserver.specs.steps.Lending.{EndsTalk, HasFailed, HasSpoken, HasTalked, IsLast, Parts, connection_end, exchange_end, flushed_replies, parts_of}
use Rattle.gserver.specs.steps.Lending as lending
use Rattle.gserver.proofs.FetchLemmas.{acks_list, pack_list, ready_list}
use Rattle.gserver.proofs.ListingLemmas.{answer_parts}
use Rattle.gserver.proofs.ErrorLemmas.{err_line}
use Rattle.gserver.proofs.TalkLemmas.{replies_of, requests_more, requests_of, replies_more}

-- ---- an answer has at least one byte

one_byte : (bytes : Bytes) → length bytes ≡ 1 → 0 < length bytes
one_byte bytes one = omega (arith, one)

text_some : (text : Bytes) (rest : List Packet) → 0 < length (canonical_all (text_packet text ∷ rest))
text_some text rest =
    let payload = text ++ line_feed ∷ [] in
    longer_first (canonical (text_packet text)) (canonical_all rest)
    (longer (digits_of (length payload + digit_count)) payload (longer text (line_feed ∷ []) (one_byte (line_feed ∷ []) refl)))

flush_some : (front back : List Packet) → 0 < length (canonical_all (front ++ Flush ∷ back))
flush_some front back =
    subst (λ (b : Bytes). 0 < length b) (sym (canonical_joins front (Flush ∷ back)))
    (longer (canonical_all front) (canonical_all (Flush ∷ back)) (longer_first (canonical Flush) (canonical_all back) (four_bytes (canonical Flush) refl)))

some_of : (packets same : List Packet) → same ≡ packets → 0 < length (canonical_all same) → 0 < length (canonical_all packets)
some_of packets same is some = subst (λ (l : List Packet). 0 < length (canonical_all l)) is some

more_some : (front back : List Packet) → 0 < length (canonical_all back) → 0 < length (canonical_all (front ++ back))
more_some front back some =
    subst (λ (b : Bytes). 0 < length b) (sym (canonical_joins front back)) (longer (canonical_all front) (canonical_all back) some)

ls_some : (ends : Ends) (reply : LsReply) → 0 < length (canonical_all (ls_packets ends reply))
ls_some ends reply =
    some_of (ls_packets ends reply) (unborn_packets reply.unborn ++ (map ref_packet reply.lines ++ Flush ∷ ends_with ends))
    (sym (answer_parts ends reply reply.unborn refl))
    (more_some (unborn_packets reply.unborn) (map ref_packet reply.lines ++ Flush ∷ ends_with ends) (flush_some (map ref_packet reply.lines) (ends_with ends)))

fetch_some : (ends : Ends) (reply : FetchReply) → 0 < length (canonical_all (fetch_packets ends reply))
fetch_some ends (Acks ids) =
    let rest = Flush ∷ ends_with ends in
    some_of (fetch_packets ends (Acks ids)) ((heading_packet ∷ nak_if_none (map ack_packet ids)) ++ rest) (acks_list ends ids _ rest refl refl)
    (text_some (codes "acknowledgments") (nak_if_none (map ack_packet ids) ++ rest))
fetch_some ends (Ready ids pack) = some_of (fetch_packets ends (Ready ids pack)) _ (ready_list ends ids pack) (text_some (codes "acknowledgments") _)
fetch_some ends (Pack pack) = some_of (fetch_packets ends (Pack pack)) _ (pack_list ends pack) (text_some (codes "packfile") _)

some_reply : {A : Type 0} (server : Server A) (packs : Packs A) (ends : Ends) (asked : Asked) (answer : Reply) → asked ≢ Empty → Answers server packs asked answer
    → 0 < length (canonical_all (reply_packets ends answer))
some_reply server packs ends Empty answer some h = absurd (some refl)
some_reply server packs ends (Ls asked) (LsAnswered reply) some h = ls_some ends reply
some_reply server packs ends (Fetches asked) (Fetch reply) some h = fetch_some ends reply
some_reply server packs ends asked answer some h = absurd h

not_none : {P : Type 0} (bytes : Bytes) → 0 < length bytes → bytes ≡ [] → P
not_none bytes some none = absurd (let n = ap length none in omega (arith, some, n))

module _ {A K : Type 0} (once : K → OnePack K) (packs : K → Packs A) (fails : K → PackFails A) (first now : LentSide A K) where
  abbrev Own : Parts A K
  Own = parts_of once first

  abbrev Last : Input → List Packet → Bool → Type 0
  Last rest said goes = IsLast once packs fails Own rest said goes now

  -- the packets to write for the last message
  due_last : (rest : Input) (said : List Packet) (goes : Bool) → Last rest said goes → said ≢ [] → IsDue Own.server (packs Own.packer) (fails Own.packer) Own.ends rest said
  due_last rest said goes (lending.IsLast.turned turn reads is on count unclosed unasked) some =
      subst (IsDue Own.server (packs Own.packer) (fails Own.packer) Own.ends rest) (sym is) (due_reply turn reads)
  due_last rest said goes (lending.IsLast.closed reads is count closing unasked) some = absurd (some is)
  due_last rest said goes (lending.IsLast.ended reads is count closing unasked) some = absurd (some is)
  due_last rest said goes (lending.IsLast.refused fault refuses is count closing packing) some =
      subst (IsDue Own.server (packs Own.packer) (fails Own.packer) Own.ends rest) (sym is) (due_refusal fault refuses)

  -- ---- the packer's last result

  pub one_packing : (rest : Input) (said : List Packet) (goes sent : Bool) → Last rest said goes → ReportsPacking (exchange_end (Ok sent) now.closing) (once now.packer.now).answered
  one_packing rest said goes sent (lending.IsLast.turned turn reads is on count unclosed unasked) =
      subst (λ (c : Option Closing). ReportsPacking (exchange_end (Ok sent) c) (once now.packer.now).answered) (sym unclosed) (ap has_failed unasked)
  one_packing rest said goes sent (lending.IsLast.closed reads is count closing unasked) =
      subst (λ (c : Option Closing). ReportsPacking (exchange_end (Ok sent) c) (once now.packer.now).answered) (sym closing) unasked
  one_packing rest said goes sent (lending.IsLast.ended reads is count closing unasked) =
      subst (λ (c : Option Closing). ReportsPacking (exchange_end (Ok sent) c) (once now.packer.now).answered) (sym closing) unasked
  one_packing rest said goes sent (lending.IsLast.refused fault refuses is count closing packing) =
      subst (λ (c : Option Closing). ReportsPacking (exchange_end (Ok sent) c) (once now.packer.now).answered) (sym closing) packing

  last_packing : (rest : Input) (said : List Packet) (goes sent : Bool) → Last rest said goes → ReportsLastPacking (connection_end (Ok sent) now.closing) (once now.packer.now).answered
  last_packing rest said goes sent (lending.IsLast.turned turn reads is on count unclosed unasked) =
      subst (λ (c : Option Closing). ReportsLastPacking (connection_end (Ok sent) c) (once now.packer.now).answered) (sym unclosed) unasked
  last_packing rest said goes sent (lending.IsLast.closed reads is count closing unasked) =
      subst (λ (c : Option Closing). ReportsLastPacking (connection_end (Ok sent) c) (once now.packer.now).answered) (sym closing) unasked
  last_packing rest said goes sent (lending.IsLast.ended reads is count closing unasked) =
      subst (λ (c : Option Closing). ReportsLastPacking (connection_end (Ok sent) c) (once now.packer.now).answered) (sym closing) unasked
  last_packing rest said goes sent (lending.IsLast.refused fault refuses is count closing packing) =
      subst (λ (c : Option Closing). ReportsLastPacking (connection_end (Ok sent) c) (once now.packer.now).answered) (sym closing) packing

  pub exchange_packing : (input : Input) (output : Output) (result : Result Bool TalkFault) → EndsTalk once packs fails first input output now result
      → ReportsPacking (exchange_end result now.closing) (once now.packer.now).answered
  exchange_packing input output (Ok sent) h = one_packing (rest_of input h.talked.between) h.talked.said false sent h.talked.last
  exchange_packing input output (Err fault) h = tt

  pub connection_packing : (input : Input) (output : Output) (result : Result Bool TalkFault) → EndsTalk once packs fails first input output now result
      → ReportsLastPacking (connection_end result now.closing) (once now.packer.now).answered
  connection_packing input output (Ok sent) h = last_packing (rest_of input h.talked.between) h.talked.said false sent h.talked.last
  connection_packing input output (Err fault) h = tt

  pub same_packer : (input : Input) (output : Output) (result : Result Bool TalkFault) → EndsTalk once packs fails first input output now result
      → (once now.packer.now).packer ≡ (once first.packer.now).packer
  same_packer input output (Ok sent) h = ap (λ (p : Parts A K). p.packer) h.talked.same
  same_packer input output (Err Io) h = ap (λ (p : Parts A K). p.packer) h.talked.same
  same_packer input output (Err Memory) h = absurd h

  -- ---- one exchange

  abbrev Exchanged : Input → Output → Bool → Option Closing → Type 0
  Exchanged input output sent how = Exchanges Own.server (packs Own.packer) (fails Own.packer) Own.ends input output (exchange_end (Ok sent) how)

  exchanged : (input : Input) (output : Output) (sent : Bool) (said : List Packet) → Last input said false → (bytes : Bytes) → bytes ≡ canonical_all said
      → ((0 < length bytes) × Passes output bytes) ⊎ ((bytes ≡ []) × IsUnwritten output) → Exchanged input output sent now.closing
  exchanged input output sent said (lending.IsLast.turned turn reads is on count unclosed unasked) bytes spelt (inl wrote) =
      subst (Exchanged input output sent) (sym unclosed) (turn, reads, subst (Passes output) (spelt ∙ ap canonical_all is) wrote.1)
  exchanged input output sent said (lending.IsLast.turned turn reads is on count unclosed unasked) bytes spelt (inr none) =
      not_none (canonical_all (reply_packets Own.ends turn.answer))
      (some_reply Own.server (packs Own.packer) Own.ends turn.asked turn.answer reads.is_turn.asks reads.is_turn.answers)
      (sym (spelt ∙ ap canonical_all is) ∙ none.0)
  exchanged input output sent said (lending.IsLast.closed reads is count closing unasked) bytes spelt (inl wrote) =
      not_none bytes wrote.0 (spelt ∙ ap canonical_all is)
  exchanged input output sent said (lending.IsLast.closed reads is count closing unasked) bytes spelt (inr none) =
      subst (Exchanged input output sent) (sym closing) (reads, none.1)
  exchanged input output sent said (lending.IsLast.ended reads is count closing unasked) bytes spelt (inl wrote) =
      not_none bytes wrote.0 (spelt ∙ ap canonical_all is)
  exchanged input output sent said (lending.IsLast.ended reads is count closing unasked) bytes spelt (inr none) =
      subst (Exchanged input output sent) (sym closing) (reads, none.1)
  exchanged input output sent said (lending.IsLast.refused fault refuses is count closing packing) bytes spelt (inl wrote) =
      subst (Exchanged input output sent) (sym closing) (refuses, subst (Passes output) (spelt ∙ ap canonical_all is) wrote.1)
  exchanged input output sent said (lending.IsLast.refused fault refuses is count closing packing) bytes spelt (inr none) =
      not_none (canonical_all (err_packets fault)) (some_of (err_packets fault) _ (err_line (err_text fault) fault refl) (text_some (codes "ERR " ++ err_text fault) []))
      (sym (spelt ∙ ap canonical_all is) ∙ none.0)

  no_turns : (input : Input) (earlier reply : Bytes) (goes : Bool) → first.most ≡ 1 → (t : HasTalked once packs fails first input earlier reply goes now) → t.turns ≡ []
  no_turns input earlier reply goes one t = nil_from_length t.turns (omega (arith, one, t.count, t.room))

  only_last : (input : Input) (earlier reply : Bytes) (goes : Bool) → (t : HasTalked once packs fails first input earlier reply goes now) → t.turns ≡ []
      → Last input t.said goes
  only_last input earlier reply goes t none = subst (λ (i : Input). Last i t.said goes) (ap (rest_of input) (t.alone none)) t.last

  nothing_before : (input : Input) (earlier reply : Bytes) (goes : Bool) → (t : HasTalked once packs fails first input earlier reply goes now) → t.turns ≡ []
      → earlier ≡ []
  nothing_before input earlier reply goes t none = t.before ∙ ap (λ (turns : List Turn). canonical_all (replies_of Own turns)) none

  failed_once : (input : Input) (output : Output) → first.most ≡ 1 → (h : HasFailed once packs fails first input output now)
      → (due : List Packet) × IsDue Own.server (packs Own.packer) (fails Own.packer) Own.ends input due × SendsSome output (canonical_all due) × KeepsPassed output.passed_on
  failed_once input output one h =
      let t = h.talked in
      let none = no_turns input h.earlier h.reply h.goes one t in
      let nothing = nothing_before input h.earlier h.reply h.goes t none in (
        t.said,
        due_last input t.said h.goes (only_last input h.earlier h.reply h.goes t none) h.some,
        record {
          front = h.front;
          rest = h.back;
          parts = sym t.latest ∙ h.due;
          written = subst (λ (b : Bytes). Appends output.written.old output.written.new (b ++ h.front)) nothing h.wrote;
          down = h.down;
        },
        elim h.passed as (λ _. KeepsPassed output.passed_on) [
          | inl kept ↦ kept.1
          | inr passed ↦ not_none h.earlier passed.0 nothing
        ],
      )

  pub exchange_served : (input : Input) (output : Output) (result : Result Bool TalkFault) → first.most ≡ 1 → EndsTalk once packs fails first input output now result
      → Exchanges Own.server (packs Own.packer) (fails Own.packer) Own.ends input output (exchange_end result now.closing)
  exchange_served input output (Ok sent) one h =
      let t = h.talked in
      let none = no_turns input h.earlier h.reply false one t in
      let nothing = nothing_before input h.earlier h.reply false t none in
      exchanged input output sent t.said (only_last input h.earlier h.reply false t none) (h.earlier ++ h.reply)
      (ap (λ (b : Bytes). b ++ h.reply) nothing ∙ t.latest) h.sent
  exchange_served input output (Err Io) one h = failed_once input output one h
  exchange_served input output (Err Memory) one h = absurd h

-- ---- a whole connection

talk_is : {A K : Type 0} (parts : Parts A K) (format : Format) (turns : List Turn)
    → canonical_all (advert_packets format) ++ canonical_all (replies_of parts turns) ≡ talk_bytes format parts.ends turns
unfolding talk
talk_is parts format turns = sym (canonical_joins (advert_packets format) (replies_of parts turns))

talk_more : {A K : Type 0} (parts : Parts A K) (format : Format) (turns : List Turn) (turn : Turn)
    → talk format parts.ends turns ++ reply_packets parts.ends turn.answer ≡ talk format parts.ends (turns ++ turn ∷ [])
unfolding talk
talk_more parts format turns turn =
    append_assoc (advert_packets format) (replies_of parts turns) (reply_packets parts.ends turn.answer)
    ∙ ap (λ (l : List Packet). advert_packets format ++ l) (sym (replies_more parts turns turn))

module _ {A K W : Type 0} (once : K → OnePack K) (packs : K → Packs A) (fails : K → PackFails A) (first now : LentSide A K) (most : first.most ≡ max_requests) (input : Input)
    (contents passed_on : W → Option Bytes) (is_down : W → Bool) (a b c : W) where
  abbrev Advert : Bytes
  Advert = canonical_all (advert_packets (parts_of once first).server.graph.format)

  abbrev Opening : Output
  Opening = output_of contents passed_on is_down a b

  abbrev Rest : Output
  Rest = output_of contents passed_on is_down b c

  abbrev Whole : Output
  Whole = output_of contents passed_on is_down a c

  abbrev Served : Bool → Option Closing → Type 0
  Served sent how =
      Serves (parts_of once first).server (packs (parts_of once first).packer) (fails (parts_of once first).packer) (parts_of once first).ends input Whole now.requests (connection_end (Ok sent) how)

  -- the advertisement, followed by all answers
  passes_whole : Passes Opening Advert → (bytes : Bytes) → ((0 < length bytes) × Passes Rest bytes) ⊎ ((bytes ≡ []) × IsUnwritten Rest) → Passes Whole (Advert ++ bytes)
  passes_whole opening bytes (inl wrote) = passes_join contents passed_on is_down a b c Advert bytes opening wrote.1
  passes_whole opening bytes (inr none) =
      subst (Passes Whole) (sym (ap (λ (l : Bytes). Advert ++ l) none.0 ∙ append-nil Advert)) (passes_still contents passed_on is_down a b c Advert opening none.1)

  module _ (earlier reply : Bytes) (goes : Bool) (t : HasTalked once packs fails first input earlier reply goes now) where
    advert_and_replies : Advert ++ earlier ≡ talk_bytes (parts_of once first).server.graph.format (parts_of once first).ends t.turns
    advert_and_replies = ap (λ (l : Bytes). Advert ++ l) t.before ∙ talk_is (parts_of once first) (parts_of once first).server.graph.format t.turns

    -- all bytes, if the last answer has these packets
    written_last : Passes Whole (Advert ++ (earlier ++ reply)) → (said : List Packet) → t.said ≡ said
        → Passes Whole (talk_bytes (parts_of once first).server.graph.format (parts_of once first).ends t.turns ++ canonical_all said)
    written_last passes said is =
        subst (Passes Whole)
        (sym (append_assoc Advert earlier reply) ∙ ap (λ (l : Bytes). l ++ reply) advert_and_replies
        ∙ ap (λ (l : Bytes). talk_bytes (parts_of once first).server.graph.format (parts_of once first).ends t.turns ++ l) (t.latest ∙ ap canonical_all is))
        passes

    written_none : Passes Whole (Advert ++ (earlier ++ reply)) → t.said ≡ []
        → Passes Whole (talk_bytes (parts_of once first).server.graph.format (parts_of once first).ends t.turns)
    written_none passes is = subst (Passes Whole) (append-nil (talk_bytes (parts_of once first).server.graph.format (parts_of once first).ends t.turns)) (written_last passes [] is)

    conversed : (requests : ℕ) (Last : Input → Type 0) → requests ≡ now.earlier → Last (rest_of input t.between)
        → Converses (parts_of once first).server (packs (parts_of once first).packer) input requests t.turns Last
    conversed requests Last is last = record { between = t.between; read = t.read; count = is ∙ t.count; last = last }

    few : (requests : ℕ) → requests ≡ now.earlier → requests < max_requests
    few requests is = omega (arith, is, t.room, most)

  -- one more turn, after which the connection accepts no further request
  all_turns : (earlier reply : Bytes) (t : HasTalked once packs fails first input earlier reply false now) → (turn : Turn)
      → ReadsTurn (parts_of once first).server (packs (parts_of once first).packer) (rest_of input t.between) turn → t.said ≡ reply_packets (parts_of once first).ends turn.answer
      → false ≡ nat_lt now.requests now.most → now.requests ≡ now.earlier + 1 → Passes Whole (Advert ++ (earlier ++ reply))
      → Served true None
  all_turns earlier reply t turn reads is off count passes =
      let turns = t.turns ++ turn ∷ [] in
      let lines = subst (λ (l : List Packet). ReadsPackets input.read l) (sym (requests_more t.turns turn))
      (reads_join input.read.old t.between input.read.new (requests_of t.turns) turn.request t.read.lines reads.lines) in
      let past = ltb-false now.requests now.most (sym off) in
      let own : now.most ≡ first.most = ap (λ (p : Parts A K). p.most) t.same in
      let all : now.requests ≡ max_requests = omega (arith, past, own, count, t.room, most) in (
        turns,
        record {
          between = input.read.new;
          read = record { lines = lines; each = All-push (IsTurn (parts_of once first).server (packs (parts_of once first).packer)) t.turns turn t.read.each reads.is_turn };
          count = count ∙ ap (λ (n : ℕ). n + 1) t.count ∙ sym (length-append t.turns (turn ∷ []));
          last = inr (all, refl, reads.up);
        },
        subst (Passes Whole)
            (sym (canonical_joins (talk (parts_of once first).server.graph.format (parts_of once first).ends t.turns) (reply_packets (parts_of once first).ends turn.answer))
            ∙ ap canonical_all (talk_more (parts_of once first) (parts_of once first).server.graph.format t.turns turn))
            (written_last earlier reply false t passes (reply_packets (parts_of once first).ends turn.answer) is),
      )

  served_last : (sent : Bool) (earlier reply : Bytes) (t : HasTalked once packs fails first input earlier reply false now) → Passes Whole (Advert ++ (earlier ++ reply))
      → (last : IsLast once packs fails (parts_of once first) (rest_of input t.between) t.said false now) → Served sent now.closing
  served_last sent earlier reply t passes (lending.IsLast.turned turn reads is on count unclosed unasked) =
      subst (Served sent) (sym unclosed) (all_turns earlier reply t turn reads is on count passes)
  served_last sent earlier reply t passes (lending.IsLast.closed reads is count closing unasked) =
      subst (Served sent) (sym closing) (
        t.turns,
        few earlier reply false t now.requests count,
        conversed earlier reply false t now.requests (ReadsEmpty (parts_of once first).server.graph.format) count reads,
        written_none earlier reply false t passes is,
      )
  served_last sent earlier reply t passes (lending.IsLast.ended reads is count closing unasked) =
      subst (Served sent) (sym closing) (
        t.turns,
        conversed earlier reply false t now.requests (HasEnded now.requests) count (inl (few earlier reply false t now.requests count, reads)),
        written_none earlier reply false t passes is,
      )
  served_last sent earlier reply t passes (lending.IsLast.refused fault refuses is count closing packing) =
      subst (Served sent) (sym closing) (inl (
        t.turns,
        few earlier reply false t now.requests count,
        conversed earlier reply false t now.requests (λ rest. IsRefused (parts_of once first).server (fails (parts_of once first).packer) rest fault) count refuses,
        written_last earlier reply false t passes (err_packets fault) is,
      ))

  -- ---- the sink failed

  failed_later : (earlier due front back : Bytes) → Passes Opening Advert → due ≡ front ++ back → Appends (contents b) (contents c) (earlier ++ front)
      → is_down c ≡ true → ((earlier ≡ []) × KeepsPassed Rest.passed_on) ⊎ ((0 < length earlier) × PassesBytes earlier Rest.written Rest.passed_on)
      → SendsAndFails Whole (Advert ++ earlier) due
  failed_later earlier due front back opening parts wrote down (inl kept) =
      subst (λ (l : Bytes). SendsAndFails Whole l due) (sym (ap (λ (l : Bytes). Advert ++ l) kept.0 ∙ append-nil Advert))
      (fails_after contents passed_on is_down a b c Advert due opening
      (record {
        front = front;
        rest = back;
        parts = parts;
        written = subst (λ (l : Bytes). Appends (contents b) (contents c) (l ++ front)) kept.0 wrote;
        down = down;
      }) kept.1)
  failed_later earlier due front back opening parts wrote down (inr passed) = record {
    front = front;
    rest = back;
    parts = parts;
    written = subst (λ (l : Bytes). Appends (contents a) (contents c) l) (sym (append_assoc Advert earlier front))
        (appends_join (contents a) (contents b) (contents c) Advert (earlier ++ front) opening.written wrote);
    passed_on = λ old is flushed.
        let known : IsSome (contents a) = is_some (contents a) (Some old) is refl in
        let mid : contents b ≡ Some (old ++ Advert) = appends_to old Advert (contents a) (contents b) is opening.written in
        let all : IsSome (contents b) = appends_known (contents a) (contents b) Advert opening.written known in
        let more = passed.1 (old ++ Advert) mid (is_some (passed_on b) (contents b) (opening.passed_on known flushed) all) in
        (more.0, more.1 ∙ ap (λ (l : Bytes). Some (l ++ more.0)) (append_assoc old Advert earlier));
    down = down;
  }

  failed_served : Passes Opening Advert → (h : HasFailed once packs fails first input Rest now)
      → Serves (parts_of once first).server (packs (parts_of once first).packer) (fails (parts_of once first).packer) (parts_of once first).ends input Whole now.earlier end.WriteFailed
  failed_served opening h =
      let t = h.talked in inl (
        t.turns,
        t.said,
        few h.earlier h.reply h.goes t now.earlier refl,
        conversed h.earlier h.reply h.goes t now.earlier
            (λ rest. IsDue (parts_of once first).server (packs (parts_of once first).packer) (fails (parts_of once first).packer) (parts_of once first).ends rest t.said) refl
            (due_last once packs fails first now (rest_of input t.between) t.said h.goes t.last h.some),
        subst (λ (l : Bytes). SendsAndFails Whole l (canonical_all t.said)) (advert_and_replies h.earlier h.reply h.goes t)
            (failed_later h.earlier (canonical_all t.said) h.front h.back opening (sym t.latest ∙ h.due) h.wrote h.down h.passed),
      )

  pub connection_served : (result : Result Bool TalkFault) → Passes Opening Advert → EndsTalk once packs fails first input Rest now result
      → Serves (parts_of once first).server (packs (parts_of once first).packer) (fails (parts_of once first).packer) (parts_of once first).ends input Whole
      (flushed_replies result now.earlier now.requests) (connection_end result now.closing)
  connection_served (Ok sent) opening h =
      served_last sent h.earlier h.reply h.talked (passes_whole opening (h.earlier ++ h.reply) h.sent) h.talked.last
  connection_served (Err Io) opening h = failed_served opening h
  connection_served (Err Memory) opening h = absurd h

-- ---- the side of a call

module _ {A K : Type 0} (once : K → OnePack K) (packs : K → Packs A) (fails : K → PackFails A) (server : Server A) (packer : K) (ends : Ends) (first now : LentSide A K)
    (is_server : first.server.now ≡ server) (is_packer : first.packer.now ≡ packer) (is_ends : first.ends ≡ ends) where
  own_parts : parts_of once first ≡ record { server = server; packer = (once packer).packer; ends = ends; most = first.most }
  own_parts =
      ap (λ (s : Server A). record { server = s; packer = (once first.packer.now).packer; ends = first.ends; most = first.most }) is_server
      ∙ ap (λ (p : K). record { server = server; packer = (once p).packer; ends = first.ends; most = first.most }) is_packer
      ∙ ap (λ (e : Ends). record { server = server; packer = (once packer).packer; ends = e; most = first.most }) is_ends

  pub serves_one : (input : Input) (output : Output) (result : Result Bool TalkFault) (closing : Option Closing) (how : ExchangeEnd) → first.most ≡ 1
      → EndsTalk once packs fails first input output now result → closing ≡ now.closing → how ≡ exchange_end result closing
      → ServesOne server (packs (once packer).packer) (fails (once packer).packer) ends input output how
  serves_one input output result closing how one h is_closing is_end =
      inl (subst (λ (e : ExchangeEnd). Exchanges server (packs (once packer).packer) (fails (once packer).packer) ends input output e)
      (sym (is_end ∙ ap (exchange_end result) is_closing))
      (subst (λ (p : Parts A K). Exchanges p.server (packs p.packer) (fails p.packer) p.ends input output (exchange_end result now.closing)) own_parts
      (exchange_served once packs fails first now input output result one h)))

  pub reports_one : (input : Input) (output : Output) (result : Result Bool TalkFault) (closing : Option Closing) (how : ExchangeEnd)
      → EndsTalk once packs fails first input output now result → closing ≡ now.closing → how ≡ exchange_end result closing
      → ReportsPacking how (once now.packer.now).answered
  reports_one input output result closing how h is_closing is_end =
      subst (λ (e : ExchangeEnd). ReportsPacking e (once now.packer.now).answered) (sym (is_end ∙ ap (exchange_end result) is_closing))
      (exchange_packing once packs fails first now input output result h)

  pub keeps_packer : (input : Input) (output : Output) (result : Result Bool TalkFault) → EndsTalk once packs fails first input output now result
      → (once now.packer.now).packer ≡ (once packer).packer
  keeps_packer input output result h = same_packer once packs fails first now input output result h ∙ ap (λ (p : K). (once p).packer) is_packer

  pub reports_last : (input : Input) (output : Output) (result : Result Bool TalkFault) (closing : Option Closing) (how : End)
      → EndsTalk once packs fails first input output now result → closing ≡ now.closing → how ≡ connection_end result closing
      → ReportsLastPacking how (once now.packer.now).answered
  reports_last input output result closing how h is_closing is_end =
      subst (λ (e : End). ReportsLastPacking e (once now.packer.now).answered) (sym (is_end ∙ ap (connection_end result) is_closing))
      (connection_packing once packs fails first now input output result h)

  module _ {W : Type 0} (contents passed_on : W → Option Bytes) (is_down : W → Bool) (a b c : W) where
    pub serves_rest : (input : Input) (result : Result Bool TalkFault) (closing : Option Closing) (earlier replies requests : ℕ) (how : End) → first.most ≡ max_requests
        → Passes (output_of contents passed_on is_down a b) (canonical_all (advert_packets server.graph.format))
        → EndsTalk once packs fails first input (output_of contents passed_on is_down b c) now result
        → closing ≡ now.closing → how ≡ connection_end result closing
        → earlier ≡ now.earlier → replies ≡ now.requests → requests ≡ flushed_replies result earlier replies
        → Serves server (packs (once packer).packer) (fails (once packer).packer) ends input (output_of contents passed_on is_down a c) requests how
    serves_rest input result closing earlier replies requests how most opening h is_closing is_end is_earlier is_replies is_requests =
        let output = output_of contents passed_on is_down a c in
        let count : requests ≡ flushed_replies result now.earlier now.requests =
        is_requests ∙ ap (λ (n : ℕ). flushed_replies result n replies) is_earlier ∙ ap (flushed_replies result now.earlier) is_replies in
        subst (λ (n : ℕ). Serves server (packs (once packer).packer) (fails (once packer).packer) ends input output n how) (sym count)
        (subst (λ (e : End). Serves server (packs (once packer).packer) (fails (once packer).packer) ends input output (flushed_replies result now.earlier now.requests) e)
        (sym (is_end ∙ ap (connection_end result) is_closing))
        (subst (λ (p : Parts A K). Serves p.server (packs p.packer) (fails p.packer) p.ends input output (flushed_replies result now.earlier now.requests) (connection_end result now.closing))
        own_parts
        (connection_served once packs fails first now most input contents passed_on is_down a b c result
        (subst (λ (s : Server A). Passes (output_of contents passed_on is_down a b) (canonical_all (advert_packets s.graph.format))) (sym is_server) opening) h)))
