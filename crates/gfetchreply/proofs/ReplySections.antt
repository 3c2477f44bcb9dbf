-- The sections of packets that complete a reply from a given state.
use Rattle.std.proofs.Common.{◌≡◌, ℕ, ◌+◌, ◌≤◌, List, [], ◌∷◌, ◌++◌, length, map, ◌⊎◌, inl, inr, refl, sym, ap, subst}
use Rattle.std.proofs.Common.{◌∙◌, append_assoc, length-append, arith, true, codes, Option, Some, None}
use Rattle.std.specs.Prelude.{All}
use Rattle.std.proofs.lemmas.List.Elements.{All-nil, All-cons, All-head, All-tail}
use Rattle.gpkt.specs.Packets.{Packet, Data, Flush, Delim, ResponseEnd, text}
use Rattle.gpkt.specs.Bands.{band_form}
use Rattle.gname.specs.declared.formats.Format.{Format}
use Rattle.ggrammar.specs.Grammar.{Verdict, Open, Whole, Refused}
use Rattle.ggrammar.specs.Endings.{ends_with, at_flush}
use Rattle.ggrammar.specs.declared.ends.Ends.{Ends}
use Rattle.ggrammar.specs.declared.ends.Ends.TheVariants.{Plain, Response}
use Rattle.ggrammar.specs.declared.fault.Why.{Why}
use Rattle.gfetchreply.specs.FetchManual.{IsDataOrProgress, IsPackSection, IsAck}
use Rattle.gfetchreply.proofs.ReplyForms.{form_there, word_there, form_reports_none, band_reports_none}
use Rattle.gfetchreply.specs.FetchReplies.{Reading, State, Point, Start, Acking, AfterReady, BeforePack, InPack, Over}
use Rattle.gfetchreply.specs.FetchReplies.{Acknowledgments, Packfile, reply_form, max_packets, data_in, data_of}
use Rattle.gfetchreply.specs.FetchReplies.{judge_at, judge_before_pack, next_place, after_text}
use Rattle.gfetchreply.specs.FetchReplies.{AfterNak, ReplyForm, Nak, Readiness, Ack, ack_id, max_acks}
use Rattle.gfetchreply.specs.FetchReplies.{judge_acking, judge_start, judge_there, judge_payload}
use Rattle.gfetchreply.proofs.ReplyVerdicts.{IsWholeAt, at_place, data_open, open_data, data_not_whole, before_open}
use Rattle.gfetchreply.proofs.ReplyVerdicts.{BandOn, band_open, open_band, over_whole, over_not_open}
use Rattle.gfetchreply.proofs.ReplyVerdicts.{start_open, late_not_open, AckingOn, an_ack, a_nak, a_readiness}
use Rattle.gfetchreply.proofs.ReplyVerdicts.{acking_open, open_acking}
use Rattle.gfetchreply.proofs.StateLemmas.{moved, moves, next_state, state-band, state-ack, state-acking, same_state}
use Rattle.std.specs.Option.{is_some}
use Rattle.ggrammar.specs.Ids.{id_of_text}

-- packets that complete a reply from a state complete it from an equal state
pub at_state : (reading : Reading) (a b : State) (packets : List Packet) → a ≡ b → IsWholeAt reading a packets → IsWholeAt reading b packets
at_state reading a b packets e h = subst (λ (s : State). IsWholeAt reading s packets) e h

-- the verdict on a refused packet is neither `Open` nor `Whole`
pub refused : {P : Type 0} {Q : Type 0} {R : Type 0} (v : Verdict) (why : Why) → v ≡ Refused why → ((v ≡ Whole) × P) ⊎ ((v ≡ Open) × Q) → R
refused v why e (inl h) = absurd (let no = sym e ∙ h.0 in cc)
refused v why e (inr h) = absurd (let no = sym e ∙ h.0 in cc)

-- if the verdict on the packet is never `Whole`, it is `Open`
pub goes_on : {P : Type 0} {Q : Type 0} (v : Verdict) → (v ≡ Whole → ⊥) → ((v ≡ Whole) × P) ⊎ ((v ≡ Open) × Q) → (v ≡ Open) × Q
goes_on v never (inl h) = absurd (never h.0)
goes_on v never (inr h) = h

-- a data packet does not complete the reply: the verdict is `Open`, and the rest completes the reply
pub data_goes : (reading : Reading) (state : State) (place : Point) (payload : List ℕ) (rest : List Packet) → state.place ≡ place
    → IsWholeAt reading state (Data payload ∷ rest)
    → (judge_payload reading place state payload ≡ Open)
    × IsWholeAt reading (next_state reading.format state (Data payload)) rest
data_goes reading state place payload rest here h =
    let goes = goes_on _ (data_not_whole reading state place payload here) h in
    (data_open reading state place payload here goes.0, goes.1)

-- if a packet is accepted and the rest completes the reply from the next state, both complete the reply
pub onward : (reading : Reading) (state next : State) (packet : Packet) (rest : List Packet)
    → judge_at reading state packet ≡ Open → next_state reading.format state packet ≡ next → IsWholeAt reading next rest
    → IsWholeAt reading state (packet ∷ rest)
onward reading state next packet rest goes is h = inr (goes, at_state reading _ _ rest (sym is) h)

-- ---- headings and the delimiter

pub next-heading : (format : Format) (state : State) (heading : List ℕ) → state.place ≡ Start → reply_form (text heading) ≡ Acknowledgments
    → next_state format state (Data heading) ≡ moved state Acking
next-heading format state heading here form =
    moves format state Start Acking (Data heading) here (ap (after_text Start) form) refl refl

pub next-delim : (format : Format) (state : State) → state.place ≡ AfterReady → next_state format state Delim ≡ moved state BeforePack
next-delim format state here = moves format state AfterReady BeforePack Delim here refl refl refl

-- ---- after the flush

over_rest : (reading : Reading) (state : State) (packets : List Packet) → state.place ≡ Over → IsWholeAt reading state packets → packets ≡ ResponseEnd ∷ []
over_rest reading state [] here h = absurd h
over_rest reading state (packet ∷ rest) here (inl h) =
    let last : packet ≡ ResponseEnd = over_whole packet (sym (at_place reading state Over packet here) ∙ h.0) in
    ap (λ (xs : List Packet). packet ∷ xs) h.1 ∙ ap (λ (p : Packet). p ∷ []) last
over_rest reading state (packet ∷ rest) here (inr h) =
    absurd (over_not_open packet (sym (at_place reading state Over packet here) ∙ h.0))

rest_by : (ends : Ends) (rest : List Packet) → ((at_flush ends ≡ Whole) × (rest ≡ [])) ⊎ ((at_flush ends ≡ Open) × (rest ≡ ResponseEnd ∷ []))
    → rest ≡ ends_with ends
rest_by Plain rest (inl h) = h.1
rest_by Plain rest (inr h) = let no = h.0 in cc
rest_by Response rest (inl h) = let no = h.0 in cc
rest_by Response rest (inr h) = h.1

-- if a flush ends the reply, the packets from the flush on are the flush and the response-end, if required
pub flush_rest : (reading : Reading) (state : State) (place : Point) (rest : List Packet) → state.place ≡ place
    → judge_there reading place state Flush ≡ at_flush reading.ends → next_place place Flush ≡ Over
    → IsWholeAt reading state (Flush ∷ rest) → Flush ∷ rest ≡ Flush ∷ ends_with reading.ends
flush_rest reading state place rest here judged over h = ap (λ (xs : List Packet). Flush ∷ xs) (by_end h) where
  at : judge_at reading state Flush ≡ at_flush reading.ends
  at = at_place reading state place Flush here ∙ judged

  by_end : IsWholeAt reading state (Flush ∷ rest) → rest ≡ ends_with reading.ends
  by_end (inl k) = rest_by reading.ends rest (inl (sym at ∙ k.0, k.1))
  by_end (inr k) =
      rest_by reading.ends rest
      (inr (
        sym at ∙ k.0,
        over_rest reading (next_state reading.format state Flush) rest
            (ap (λ (p : Point). next_place p Flush) here ∙ over) k.1,
      ))

by_rest : (reading : Reading) (state next : State) (ends : Ends) → next.place ≡ Over → judge_at reading state Flush ≡ at_flush ends
    → ((judge_at reading state Flush ≡ Whole) × (ends_with ends ≡ [])) ⊎ ((judge_at reading state Flush ≡ Open) × IsWholeAt reading next (ends_with ends))
by_rest reading state next Plain over at = inl (at, refl)
by_rest reading state next Response over at = inr (at, inl (at_place reading next Over ResponseEnd over, refl))

pub rest_flush : (reading : Reading) (state : State) (place : Point) → state.place ≡ place
    → judge_there reading place state Flush ≡ at_flush reading.ends → next_place place Flush ≡ Over
    → IsWholeAt reading state (Flush ∷ ends_with reading.ends)
rest_flush reading state place here judged over =
    by_rest reading state (next_state reading.format state Flush) reading.ends
    (ap (λ (p : Point). next_place p Flush) here ∙ over) (at_place reading state place Flush here ∙ judged)

-- ---- the bytes of the pack

pub record IsPackRest (reading : Reading) (state : State) (packets : List Packet) : Type 0 where
  pub payloads : List (List ℕ)
  pub parts : packets ≡ map Data payloads ++ Flush ∷ ends_with reading.ends
  pub are : All (λ payload. IsDataOrProgress (band_form payload)) payloads
  pub few : state.band_count + length payloads ≤ max_packets
  pub short : state.byte_count + length (data_of payloads) ≤ reading.limit

-- the state after a packet of the pack
abbrev pub banded : State → List ℕ → State
banded state payload =
    record { place = InPack; ack_count = state.ack_count; band_count = state.band_count + 1; byte_count = state.byte_count + length (data_in (band_form payload)) }

more_rest : (reading : Reading) (state : State) (payload : List ℕ) (rest : List Packet) → BandOn reading.limit state (band_form payload)
    → IsPackRest reading (banded state payload) rest → IsPackRest reading state (Data payload ∷ rest)
more_rest reading state payload rest on more = record {
  payloads = payload ∷ more.payloads;
  parts = ap (λ (xs : List Packet). Data payload ∷ xs) more.parts;
  are = All-cons (λ p. IsDataOrProgress (band_form p)) payload more.payloads on.is more.are;
  few = (let few = more.few in omega arith);
  short = (let short = more.short in omega (arith, length-append (data_in (band_form payload)) (data_of more.payloads)));
}

pub pack_rest : (reading : Reading) (state : State) (packets : List Packet) → state.place ≡ InPack → state.band_count ≤ max_packets → state.byte_count ≤ reading.limit
    → IsWholeAt reading state packets → IsPackRest reading state packets
pack_rest reading state [] here few short h = absurd h
pack_rest reading state (Data payload ∷ rest) here few short h =
    let goes = data_goes reading state InPack payload rest here h in
    let on = band_open reading.limit state (band_form payload) short goes.0 in
    let room : state.band_count + 1 ≤ max_packets = (let on_few = on.few in omega arith) in
    more_rest reading state payload rest on
    (pack_rest reading (banded state payload) rest refl room on.short
    (at_state reading _ _ rest (state-band reading.format state payload here) goes.1))
pack_rest reading state (Flush ∷ rest) here few short h = record {
  payloads = [];
  parts = flush_rest reading state InPack rest here refl refl h;
  are = All-nil (λ p. IsDataOrProgress (band_form p));
  few = omega arith;
  short = omega arith;
}
pack_rest reading state (packet ∷ rest) here few short h = refused _ _ (at_place reading state InPack packet here) h

pub rest_pack : (reading : Reading) (state : State) (payloads : List (List ℕ)) → state.place ≡ InPack → All (λ payload. IsDataOrProgress (band_form payload)) payloads
    → state.band_count + length payloads ≤ max_packets → state.byte_count + length (data_of payloads) ≤ reading.limit
    → IsWholeAt reading state (map Data payloads ++ Flush ∷ ends_with reading.ends)
rest_pack reading state [] here are few short = rest_flush reading state InPack here refl refl
rest_pack reading state (payload ∷ payloads) here are few short =
    let is = All-head (λ p. IsDataOrProgress (band_form p)) payload payloads are in
    let long = length-append (data_in (band_form payload)) (data_of payloads) in
    let on : BandOn reading.limit state (band_form payload) = record { is = is; few = omega arith; short = omega arith } in
    onward reading state (banded state payload) (Data payload) _
    (open_data reading state InPack payload here (band_reports_none payload is) (open_band reading.limit state (band_form payload) on))
    (state-band reading.format state payload here)
    (rest_pack reading (banded state payload) payloads refl (All-tail (λ p. IsDataOrProgress (band_form p)) payload payloads are) (omega arith) (omega arith))

-- ---- the pack's section

pub record IsPackPart (reading : Reading) (packets : List Packet) : Type 0 where
  pub section : List Packet
  pub pack : List ℕ
  pub is : IsPackSection reading.limit section pack
  pub parts : packets ≡ section ++ ends_with reading.ends

-- the heading of the pack is expected, and no packet of the pack was read
pub record IsBeforePack (state : State) : Type 0 where
  pub place : state.place ≡ BeforePack
  pub band_count : state.band_count ≡ 0
  pub byte_count : state.byte_count ≡ 0

pub next-packfile : (format : Format) (state : State) (heading : List ℕ) → state.place ≡ BeforePack → reply_form (text heading) ≡ Packfile
    → next_state format state (Data heading) ≡ moved state InPack
next-packfile format state heading here form =
    moves format state BeforePack InPack (Data heading) here (ap (after_text BeforePack) form) refl refl

pub pack_part : (reading : Reading) (state : State) (packets : List Packet) → IsBeforePack state → IsWholeAt reading state packets → IsPackPart reading packets
pack_part reading state [] before h = absurd h
pack_part reading state (Data heading ∷ rest) before h =
    let goes = data_goes reading state BeforePack heading rest before.place h in
    let form : reply_form (text heading) ≡ Packfile = before_open _ goes.0 in
    let whole = at_state reading _ _ rest (next-packfile reading.format state heading before.place form) goes.1 in
    let none = before.band_count in
    let empty = before.byte_count in
    let more = pack_rest reading (moved state InPack) rest refl (omega arith) (omega arith) whole in
    record {
      section = Data heading ∷ (map Data more.payloads ++ Flush ∷ []);
      pack = data_of more.payloads;
      is = record {
        heading = heading;
        payloads = more.payloads;
        parts = refl;
        is_heading = form_there (text heading) Packfile form;
        are_bands = more.are;
        few = (let few = more.few in omega arith);
        short = (let short = more.short in omega arith);
        is_data = refl;
      };
      parts = ap (λ (xs : List Packet). Data heading ∷ xs) (more.parts ∙ sym (append_assoc (map Data more.payloads) (Flush ∷ []) (ends_with reading.ends)));
    }
pack_part reading state (packet ∷ rest) before h = refused _ _ (at_place reading state BeforePack packet before.place) h

pub part_pack : (reading : Reading) (state : State) (section : List Packet) (pack : List ℕ) → IsBeforePack state → IsPackSection reading.limit section pack
    → IsWholeAt reading state (section ++ ends_with reading.ends)
part_pack reading state section pack before is =
    let form = word_there (text is.heading) Packfile tt is.is_heading in
    let none = before.band_count in
    let empty = before.byte_count in
    let few = is.few in
    let long : length pack ≡ length (data_of is.payloads) = ap length is.is_data in
    let short = is.short in
    let rest = rest_pack reading (moved state InPack) is.payloads refl is.are_bands (omega arith) (omega arith) in
    let whole = onward reading state (moved state InPack) (Data is.heading) _
    (open_data reading state BeforePack is.heading before.place (form_reports_none is.heading Packfile form tt) (ap judge_before_pack form))
    (next-packfile reading.format state is.heading before.place form) rest in
    let same : Data is.heading ∷ (map Data is.payloads ++ Flush ∷ ends_with reading.ends) ≡ section ++ ends_with reading.ends =
    ap (λ (xs : List Packet). Data is.heading ∷ xs) (sym (append_assoc (map Data is.payloads) (Flush ∷ []) (ends_with reading.ends)))
    ∙ ap (λ (xs : List Packet). xs ++ ends_with reading.ends) (sym is.parts) in
    subst (IsWholeAt reading state) same whole

-- ---- the acknowledgments

-- the packets that may follow `count` acknowledged ids
pub data AckTail (reading : Reading) (count : ℕ) (tail : List Packet) : Type 0 where
  ended : tail ≡ Flush ∷ ends_with reading.ends → AckTail reading count tail
  naked : (nak : List ℕ) → count ≡ 0 → text nak ≡ codes "NAK" → tail ≡ Data nak ∷ Flush ∷ ends_with reading.ends → AckTail reading count tail
  readied : (readiness : List ℕ) (rest : List Packet) → text readiness ≡ codes "ready" → tail ≡ Data readiness ∷ Delim ∷ rest
      → IsPackPart reading rest → AckTail reading count tail

pub record IsAckRest (reading : Reading) (state : State) (packets : List Packet) : Type 0 where
  pub acks : List (List ℕ)
  pub tail : List Packet
  pub parts : packets ≡ map Data acks ++ tail
  pub are : All (IsAck reading.format) (map text acks)
  pub few : state.ack_count + length acks ≤ max_acks reading.limits
  pub last : AckTail reading (state.ack_count + length acks) tail

-- a text of the acknowledgments is expected, and no packet of the pack was read
pub record IsAcking (state : State) : Type 0 where
  pub place : state.place ≡ Acking
  pub band_count : state.band_count ≡ 0
  pub byte_count : state.byte_count ≡ 0

-- ---- from the judge to the sections

naked_rest : (reading : Reading) (state : State) (packets : List Packet) → state.place ≡ AfterNak → IsWholeAt reading state packets → packets ≡ Flush ∷ ends_with reading.ends
naked_rest reading state [] here h = absurd h
naked_rest reading state (Data payload ∷ rest) here h =
    absurd (late_not_open _ (data_goes reading state AfterNak payload rest here h).0)
naked_rest reading state (Flush ∷ rest) here h = flush_rest reading state AfterNak rest here refl refl h
naked_rest reading state (packet ∷ rest) here h = refused _ _ (at_place reading state AfterNak packet here) h

-- after `ready`: the delimiter, and the pack's section
ready_rest : (reading : Reading) (state : State) (packets : List Packet) → state.place ≡ AfterReady → state.band_count ≡ 0 → state.byte_count ≡ 0
    → IsWholeAt reading state packets → (rest : List Packet) × (packets ≡ Delim ∷ rest) × IsPackPart reading rest
ready_rest reading state [] here none empty h = absurd h
ready_rest reading state (Data payload ∷ rest) here none empty h =
    absurd (late_not_open _ (data_goes reading state AfterReady payload rest here h).0)
ready_rest reading state (Delim ∷ rest) here none empty h =
    let goes = goes_on _ (λ e. let no = sym (at_place reading state AfterReady Delim here) ∙ e in cc) h in (
      rest,
      refl,
      pack_part reading (moved state BeforePack) rest (record { place = refl; band_count = none; byte_count = empty })
          (at_state reading _ _ rest (next-delim reading.format state here) goes.1),
    )
ready_rest reading state (packet ∷ rest) here none empty h = refused _ _ (at_place reading state AfterReady packet here) h

-- the state after `more` further acknowledged ids
abbrev pub acked : ℕ → State → State
acked more state = record { place = Acking; ack_count = state.ack_count + more; band_count = state.band_count; byte_count = state.byte_count }

more_acks : (reading : Reading) (state : State) (ack : List ℕ) (rest : List Packet) → IsAck reading.format (text ack) → IsAckRest reading (acked 1 state) rest
    → IsAckRest reading state (Data ack ∷ rest)
more_acks reading state ack rest is more =
    let few = more.few in
    record {
      acks = ack ∷ more.acks;
      tail = more.tail;
      parts = ap (λ (xs : List Packet). Data ack ∷ xs) more.parts;
      are = All-cons (IsAck reading.format) (text ack) (map text more.acks) is more.are;
      few = omega arith;
      last = subst (λ (n : ℕ). AckTail reading n more.tail) (omega arith) more.last;
    }

ack_by : (reading : Reading) (state : State) (payload : List ℕ) (rest : List Packet) (form : ReplyForm) → reply_form (text payload) ≡ form → IsAcking state
    → state.ack_count ≤ max_acks reading.limits → AckingOn reading.limits reading.format state form
    → ((new : State) → IsAcking new → new.ack_count ≤ max_acks reading.limits → IsWholeAt reading new rest
    → IsAckRest reading new rest)
    → IsWholeAt reading (next_state reading.format state (Data payload)) rest → IsAckRest reading state (Data payload ∷ rest)
ack_by reading state payload rest (Ack digits) is here few (an_ack d id spells less) next h =
    more_acks reading state payload rest (ap is_some (ap (ack_id reading.format) is ∙ spells))
    (next (acked 1 state) (record { place = refl; band_count = here.band_count; byte_count = here.byte_count }) (omega arith)
    (at_state reading _ _ rest (state-ack reading.format state payload digits id here.place is spells) h))
ack_by reading state payload rest Nak is here few (a_nak none) next h =
    let ends = naked_rest reading (moved state AfterNak) rest refl
    (at_state reading _ _ rest (state-acking reading.format state payload Nak here.place is refl) h) in
    record {
      acks = [];
      tail = Data payload ∷ rest;
      parts = refl;
      are = All-nil (IsAck reading.format);
      few = omega arith;
      last = naked payload (omega arith) (form_there (text payload) Nak is) (ap (λ (xs : List Packet). Data payload ∷ xs) ends);
    }
ack_by reading state payload rest Readiness is here few a_readiness next h =
    let ready = ready_rest reading (moved state AfterReady) rest refl here.band_count here.byte_count
    (at_state reading _ _ rest (state-acking reading.format state payload Readiness here.place is refl) h) in
    record {
      acks = [];
      tail = Data payload ∷ rest;
      parts = refl;
      are = All-nil (IsAck reading.format);
      few = omega arith;
      last = readied payload ready.0 (form_there (text payload) Readiness is) (ap (λ (xs : List Packet). Data payload ∷ xs) ready.1) ready.2;
    }
ack_by reading state payload rest form is here few on next h = elim on [ ]

pub ack_rest : (reading : Reading) (packets : List Packet) (state : State) → IsAcking state
    → state.ack_count ≤ max_acks reading.limits → IsWholeAt reading state packets → IsAckRest reading state packets
ack_rest reading [] state here few h = absurd h
ack_rest reading (Data payload ∷ rest) state here few h =
    let goes = data_goes reading state Acking payload rest here.place h in
    ack_by reading state payload rest _ refl here few (acking_open reading.limits reading.format state _ goes.0)
    (ack_rest reading rest) goes.1
ack_rest reading (Flush ∷ rest) state here few h = record {
  acks = [];
  tail = Flush ∷ rest;
  parts = refl;
  are = All-nil (IsAck reading.format);
  few = omega arith;
  last = ended (flush_rest reading state Acking rest here.place refl refl h);
}
ack_rest reading (packet ∷ rest) state here few h = refused _ _ (at_place reading state Acking packet here.place) h

-- ---- from the sections to the judge

some_id : (format : Format) (digits : List ℕ) (id : Option (List ℕ)) → id_of_text format digits ≡ id → is_some id ≡ true → (found : List ℕ) × (id_of_text format digits ≡ Some found)
some_id format digits None is e = cc
some_id format digits (Some id) is e = (id, is)

-- the text of an acknowledged id
pub record IsAckForm (format : Format) (form : ReplyForm) : Type 0 where
  pub digits : List ℕ
  pub id : List ℕ
  pub is : form ≡ Ack digits
  pub spells : id_of_text format digits ≡ Some id

pub ack_is : (format : Format) (form : ReplyForm) → is_some (ack_id format form) ≡ true → IsAckForm format form
ack_is format (Ack digits) e = let some = some_id format digits _ refl e in record { digits = digits; id = some.0; is = refl; spells = some.1 }
ack_is format form e = cc

open_text : (reading : Reading) (state : State) (payload : List ℕ) (form : ReplyForm) → reply_form (text payload) ≡ form
    → AckingOn reading.limits reading.format state form
    → judge_acking reading.limits reading.format state (reply_form (text payload)) ≡ Open
open_text reading state payload form is on =
    ap (judge_acking reading.limits reading.format state) is
    ∙ open_acking reading.limits reading.format state form on

-- after a text that may follow in the acknowledgments, the verdict is `Open`
pub open_ack : (reading : Reading) (state : State) (payload : List ℕ) (form : ReplyForm) → state.place ≡ Acking → reply_form (text payload) ≡ form
    → AckingOn reading.limits reading.format state form → judge_at reading state (Data payload) ≡ Open
open_ack reading state payload Nak here is on =
    open_data reading state Acking payload here (form_reports_none payload Nak is tt) (open_text reading state payload Nak is on)
open_ack reading state payload Readiness here is on =
    open_data reading state Acking payload here (form_reports_none payload Readiness is tt)
    (open_text reading state payload Readiness is on)
open_ack reading state payload (Ack digits) here is on =
    open_data reading state Acking payload here (form_reports_none payload (Ack digits) is tt)
    (open_text reading state payload (Ack digits) is on)
open_ack reading state payload form here is on = elim on [ ]

pub rest_acks : (reading : Reading) (state : State) (acks : List (List ℕ)) (tail : List Packet) → state.place ≡ Acking → All (IsAck reading.format) (map text acks)
    → state.ack_count + length acks ≤ max_acks reading.limits → IsWholeAt reading (acked (length acks) state) tail
    → IsWholeAt reading state (map Data acks ++ tail)
rest_acks reading state [] tail here are few last =
    at_state reading _ _ tail (same_state (sym here) (omega arith) refl refl) last
rest_acks reading state (ack ∷ acks) tail here are few last =
    let form = ack_is reading.format _ (All-head (IsAck reading.format) (text ack) (map text acks) are) in
    onward reading state (acked 1 state) (Data ack) _
    (open_ack reading state ack (Ack form.digits) here form.is (an_ack form.digits form.id form.spells (omega arith)))
    (state-ack reading.format state ack form.digits form.id here form.is form.spells)
    (rest_acks reading (acked 1 state) acks tail refl (All-tail (IsAck reading.format) (text ack) (map text acks) are) (omega arith)
    (at_state reading _ _ tail (same_state refl (omega arith) refl refl) last))

pub rest_nak : (reading : Reading) (state : State) (nak : List ℕ) → state.place ≡ Acking → state.ack_count ≡ 0 → text nak ≡ codes "NAK"
    → IsWholeAt reading state (Data nak ∷ Flush ∷ ends_with reading.ends)
rest_nak reading state nak here none is =
    let form = word_there (text nak) Nak tt is in
    onward reading state (moved state AfterNak) (Data nak) _ (open_ack reading state nak Nak here form (a_nak none))
    (state-acking reading.format state nak Nak here form refl)
    (rest_flush reading (moved state AfterNak) AfterNak refl refl refl)

pub rest_ready : (reading : Reading) (state : State) (readiness : List ℕ) (rest : List Packet) → state.place ≡ Acking → text readiness ≡ codes "ready"
    → IsWholeAt reading (moved state BeforePack) rest → IsWholeAt reading state (Data readiness ∷ Delim ∷ rest)
rest_ready reading state readiness rest here is last =
    let form = word_there (text readiness) Readiness tt is in
    let ready = moved state AfterReady in
    onward reading state ready (Data readiness) _ (open_ack reading state readiness Readiness here form a_readiness)
    (state-acking reading.format state readiness Readiness here form refl)
    (onward reading ready (moved state BeforePack) Delim rest (at_place reading ready AfterReady Delim refl)
    (next-delim reading.format ready refl) last)

-- ---- the heading

pub record IsAckPart (reading : Reading) (state : State) (packets : List Packet) : Type 0 where
  pub heading : List ℕ
  pub rest : List Packet
  pub parts : packets ≡ Data heading ∷ rest
  pub is_heading : text heading ≡ codes "acknowledgments"
  pub are : IsAckRest reading (moved state Acking) rest

pub ack_part : (reading : Reading) (state : State) (packets : List Packet) → state.place ≡ Start
    → state.ack_count ≤ max_acks reading.limits → state.band_count ≡ 0 → state.byte_count ≡ 0
    → IsWholeAt reading state packets → IsAckPart reading state packets
ack_part reading state [] here few none empty h = absurd h
ack_part reading state (Data heading ∷ rest) here few none empty h =
    let goes = data_goes reading state Start heading rest here h in
    let form : reply_form (text heading) ≡ Acknowledgments = start_open _ goes.0 in
    record {
      heading = heading;
      rest = rest;
      parts = refl;
      is_heading = form_there (text heading) Acknowledgments form;
      are = ack_rest reading rest (moved state Acking) (record { place = refl; band_count = none; byte_count = empty }) few
          (at_state reading _ _ rest (next-heading reading.format state heading here form) goes.1);
    }
ack_part reading state (packet ∷ rest) here few none empty h = refused _ _ (at_place reading state Start packet here) h

pub part_ack : (reading : Reading) (state : State) (heading : List ℕ) (rest : List Packet) → state.place ≡ Start → text heading ≡ codes "acknowledgments"
    → IsWholeAt reading (moved state Acking) rest → IsWholeAt reading state (Data heading ∷ rest)
part_ack reading state heading rest here is whole =
    let form = word_there (text heading) Acknowledgments tt is in
    onward reading state (moved state Acking) (Data heading) rest
    (open_data reading state Start heading here (form_reports_none heading Acknowledgments form tt) (ap judge_start form))
    (next-heading reading.format state heading here form) whole
