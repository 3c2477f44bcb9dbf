-- The verdicts of the judge of replies on a packet, for each place in the grammar.
use Rattle.std.proofs.Common.{◌≡◌, ℕ, ◌+◌, ◌≤◌, ◌<◌, Bool, true, false, cond, List, [], ◌∷◌, ◌++◌, length, Option, Some}
use Rattle.std.proofs.Common.{None, Result, Ok, Err, refl, sym, ap, subst, ◌∙◌, append_assoc, append-nil, arith, ◌⊎◌}
use Rattle.std.proofs.Common.{inl, inr}
use Rattle.std.specs.Prelude.{is_some, nat_lt}
use Rattle.std.proofs.lemmas.Bool.{and_parts, and_from, ltb-true, ltb-false, lt-ltb, leb-true, le-leb}
use Rattle.gpkt.specs.Packets.{Packet, Data, Flush, Delim, ResponseEnd}
use Rattle.gpkt.specs.Bands.{BandPacket, Data as BandData, Progress, Fatal}
use Rattle.gpkt.specs.declared.fault.BandFault.{BandFault}
use Rattle.gname.specs.declared.formats.Format.{Format}
use Rattle.ggrammar.specs.Grammar.{Verdict, Open, Whole, Refused, if_room, Judge, IsOpen, IsWhole}
use Rattle.ggrammar.specs.Endings.{after_flush, at_flush}
use Rattle.ggrammar.specs.MessageBytes.{IsForPacket, RefusesPackets}
use Rattle.ggrammar.specs.Ids.{id_of_text}
use Rattle.ggrammar.specs.PeerErrors.{peer_error, unless_error}
use Rattle.ggrammar.specs.declared.ends.Ends.{Ends}
use Rattle.ggrammar.specs.declared.ends.Ends.TheVariants.{Plain, Response}
use Rattle.ggrammar.specs.declared.fault.Why.TheVariants as why
use Rattle.ggrammar.specs.declared.limits.Limits.{Limits}
use Rattle.ggrammar.proofs.VerdictLemmas.{open_unless, past_error, room_goes_on, room_left, whole_unless}
use Rattle.gfetchreply.specs.FetchManual.{IsDataOrProgress}
use Rattle.gfetchreply.specs.FetchReplies.{Reading, State, Point, Start, Acking, AfterNak, BeforePack, InPack, Over}
use Rattle.gfetchreply.specs.FetchReplies.{ReplyForm, Acknowledgments, Nak, Readiness, Packfile, Ack, OtherForm}
use Rattle.gfetchreply.specs.FetchReplies.{max_acks, max_packets, data_in, judge, judge_at, judge_there, judge_acking}
use Rattle.gfetchreply.specs.FetchReplies.{judge_start, judge_before_pack, judge_late, judge_band, judge_payload}
use Rattle.gfetchreply.specs.FetchReplies.{state_of, first_place}
use Rattle.gfetchreply.proofs.StateLemmas.{state_of-nil, state_of-push, next_state}
use Rattle.ggrammar.proofs.GrammarLemmas.{nil_has_none}

module _ {S : Type 0} (table : S → Packet → Verdict) (step : S → Packet → S) where
  -- the state after these packets
  abbrev pub state_after : S → List Packet → S
  state_after state [] = state
  state_after state (packet ∷ packets) = state_after (step state packet) packets

  -- the judge that starts in the given state
  abbrev pub judge_from : S → Judge
  judge_from state front packet = table (state_after state front) packet

  abbrev pub OpenFrom : S → List Packet → Type 0
  OpenFrom state [] = Unit {0}
  OpenFrom state (packet ∷ rest) = (table state packet ≡ Open) × OpenFrom (step state packet) rest

  abbrev pub WholeFrom : S → List Packet → Type 0
  WholeFrom state [] = ⊥
  WholeFrom state (packet ∷ rest) =
      ((table state packet ≡ Whole) × (rest ≡ [])) ⊎ ((table state packet ≡ Open) × WholeFrom (step state packet) rest)

  pub OpenFrom-from_open : (state : S) (lines : List Packet) → IsOpen (judge_from state) lines → OpenFrom state lines
  OpenFrom-from_open state [] opened = tt
  OpenFrom-from_open state (packet ∷ rest) opened = (
    opened.each [] packet rest refl,
    OpenFrom-from_open (step state packet) rest (record { each = λ front one back e. opened.each (packet ∷ front) one back (ap (λ (xs : List Packet). packet ∷ xs) e) }),
  )

  -- the verdict on each packet of an open list is `Open`
  open_there : (state : S) (lines front : List Packet) (packet : Packet) (back : List Packet) → OpenFrom state lines → lines ≡ front ++ packet ∷ back
      → table (state_after state front) packet ≡ Open
  open_there state [] front packet back h e = absurd (nil_has_none front packet back e)
  open_there state (first ∷ rest) [] packet back h e =
      let same : first ≡ packet = cc in ap (table state) (sym same) ∙ h.0
  open_there state (first ∷ rest) (other ∷ front) packet back h e =
      let same : first ≡ other = cc in
      let more : rest ≡ front ++ packet ∷ back = cc in
      ap (λ (p : Packet). table (state_after (step state p) front) packet) (sym same) ∙ open_there (step state first) rest front packet back h.1 more

  pub IsOpen-from_left : (state : S) (lines : List Packet) → OpenFrom state lines → IsOpen (judge_from state) lines
  IsOpen-from_left state lines h = record { each = λ front packet back e. open_there state lines front packet back h e }

  whole_push : (state : S) (front : List Packet) (last : Packet) → OpenFrom state front → table (state_after state front) last ≡ Whole
      → WholeFrom state (front ++ last ∷ [])
  whole_push state [] last h ends = inl (ends, refl)
  whole_push state (packet ∷ front) last h ends = inr (h.0, whole_push (step state packet) front last h.1 ends)

  pub WholeFrom-from_whole : (state : S) (lines : List Packet) → IsWhole (judge_from state) lines → WholeFrom state lines
  WholeFrom-from_whole state lines whole =
      subst (WholeFrom state) (sym whole.parts) (whole_push state whole.front whole.last (OpenFrom-from_open state whole.front whole.goes) whole.ends)

  pub IsWhole-from_left : (state : S) (lines : List Packet) → WholeFrom state lines → IsWhole (judge_from state) lines
  IsWhole-from_left state [] h = absurd h
  IsWhole-from_left state (packet ∷ rest) (inl h) = record {
    front = [];
    last = packet;
    parts = ap (λ (xs : List Packet). packet ∷ xs) h.1;
    goes = IsOpen-from_left state [] tt;
    ends = h.0;
  }
  IsWhole-from_left state (packet ∷ rest) (inr h) =
      let whole = IsWhole-from_left (step state packet) rest h.1 in
      record {
        front = packet ∷ whole.front;
        last = whole.last;
        parts = ap (λ (xs : List Packet). packet ∷ xs) whole.parts;
        goes = IsOpen-from_left state (packet ∷ whole.front) (h.0, OpenFrom-from_open (step state packet) whole.front whole.goes);
        ends = whole.ends;
      }

  -- no complete list is a proper prefix of another
  pub WholeFrom-ends : (state : S) (lines back : List Packet) → WholeFrom state lines → WholeFrom state (lines ++ back) → back ≡ []
  WholeFrom-ends state [] back short long = absurd short
  WholeFrom-ends state (packet ∷ rest) back (inl h) (inl g) = ap (λ (xs : List Packet). xs ++ back) (sym h.1) ∙ g.1
  WholeFrom-ends state (packet ∷ rest) back (inl h) (inr g) = let ends = h.0 in let goes = g.0 in cc
  WholeFrom-ends state (packet ∷ rest) back (inr h) (inl g) = let goes = h.0 in let ends = g.0 in cc
  WholeFrom-ends state (packet ∷ rest) back (inr h) (inr g) = WholeFrom-ends (step state packet) rest back h.1 g.1

  -- an open list, followed by packets that are complete from its last state, is complete
  pub WholeFrom-after_open : (state : S) (front more : List Packet) → OpenFrom state front → WholeFrom (state_after state front) more
      → WholeFrom state (front ++ more)
  WholeFrom-after_open state [] more opened rest = rest
  WholeFrom-after_open state (packet ∷ front) more opened rest = inr (opened.0, WholeFrom-after_open (step state packet) front more opened.1 rest)

-- ---- the judge, from the first packet to the last

-- the state before the first packet
abbrev pub start : Reading → State
start reading = record { place = first_place reading.direct; ack_count = 0; band_count = 0; byte_count = 0 }

-- the packets complete a reply from this state
abbrev pub IsWholeAt : Reading → State → List Packet → Type 0
IsWholeAt reading state packets = WholeFrom (judge_at reading) (next_state reading.format) state packets

abbrev pub IsOpenAt : Reading → State → List Packet → Type 0
IsOpenAt reading state packets = OpenFrom (judge_at reading) (next_state reading.format) state packets

state_run : (reading : Reading) (before packets : List Packet)
    → state_of reading (before ++ packets) ≡ state_after (judge_at reading) (next_state reading.format) (state_of reading before) packets
state_run reading before [] = ap (state_of reading) (append-nil before)
state_run reading before (packet ∷ rest) =
    ap (state_of reading) (sym (append_assoc before (packet ∷ []) rest))
    ∙ (state_run reading (before ++ packet ∷ []) rest
    ∙ ap (λ (s : State). state_after (judge_at reading) (next_state reading.format) s rest) (state_of-push reading before packet))

pub state_from_start : (reading : Reading) (packets : List Packet)
    → state_of reading packets ≡ state_after (judge_at reading) (next_state reading.format) (start reading) packets
state_from_start reading packets =
    state_run reading [] packets
    ∙ ap (λ (s : State). state_after (judge_at reading) (next_state reading.format) s packets) (state_of-nil reading)

pub judge_is : (reading : Reading) → judge reading ≡ judge_from (judge_at reading) (next_state reading.format) (start reading)
judge_is reading = λ i. λ front packet. judge_at reading (state_from_start reading front i) packet

-- ---- the verdicts for each place

pub at_place : (reading : Reading) (state : State) (place : Point) (packet : Packet) → state.place ≡ place
    → judge_at reading state packet ≡ judge_there reading place state packet
unfolding judge_at
at_place reading state place packet here = ap (λ (p : Point). judge_there reading p state packet) here

data_there : (reading : Reading) (place : Point) (state : State) (payload : List ℕ)
    → judge_there reading place state (Data payload) ≡ unless_error (peer_error payload) (judge_payload reading place state payload)
data_there reading Start state payload = refl
data_there reading place state payload = refl

pub data_judged : (reading : Reading) (state : State) (place : Point) (payload : List ℕ) → state.place ≡ place
    → judge_at reading state (Data payload) ≡ unless_error (peer_error payload) (judge_payload reading place state payload)
data_judged reading state place payload here =
    at_place reading state place (Data payload) here ∙ data_there reading place state payload

pub data_open : (reading : Reading) (state : State) (place : Point) (payload : List ℕ) → state.place ≡ place
    → judge_at reading state (Data payload) ≡ Open → judge_payload reading place state payload ≡ Open
data_open reading state place payload here e =
    open_unless (peer_error payload) _ (sym (data_judged reading state place payload here) ∙ e)

pub open_data : (reading : Reading) (state : State) (place : Point) (payload : List ℕ) → state.place ≡ place
    → peer_error payload ≡ None → judge_payload reading place state payload ≡ Open → judge_at reading state (Data payload) ≡ Open
open_data reading state place payload here none e =
    data_judged reading state place payload here
    ∙ (ap (λ (said : Option (List ℕ)). unless_error said (judge_payload reading place state payload)) none ∙ e)

-- ---- data packets, which end no reply, and rejection because of the content of a packet

abbrev IsPart : Verdict → Type 0
IsPart Whole = ⊥
IsPart verdict = IsForPacket verdict

part_test : (test : Bool) (one other : Verdict) → IsPart one → IsPart other → IsPart (cond test one other)
part_test true one other h k = h
part_test false one other h k = k

part_room : (test : Bool) → IsPart (if_room test)
part_room test = part_test test Open (Refused why.Limit) tt tt

part_start : (form : ReplyForm) → IsPart (judge_start form)
part_start Packfile = tt
part_start form = tt

part_acking : (limits : Limits) (format : Format) (state : State) (form : ReplyForm)
    → IsPart (judge_acking limits format state form)
part_acking limits format state Nak = part_test (nat_lt 0 state.ack_count) (Refused why.WrongSection) Open tt tt
part_acking limits format state (Ack id) =
    part_test (is_some (id_of_text format id)) _ (Refused why.BadId) (part_room _) tt
part_acking limits format state form = tt

part_late : (form : ReplyForm) → IsPart (judge_late form)
part_late OtherForm = tt
part_late form = tt

part_before : (form : ReplyForm) → IsPart (judge_before_pack form)
part_before Packfile = tt
part_before form = tt

part_band : (limit : ℕ) (state : State) (band : Result BandPacket BandFault) → IsPart (judge_band limit state band)
part_band limit state (Ok (Fatal bytes)) = tt
part_band limit state (Ok band) = part_room _
part_band limit state (Err fault) = tt

part_payload : (reading : Reading) (place : Point) (state : State) (payload : List ℕ) → IsPart (judge_payload reading place state payload)
part_payload reading Start state payload = part_start _
part_payload reading Acking state payload = part_acking reading.limits reading.format state _
part_payload reading BeforePack state payload = part_before _
part_payload reading InPack state payload = part_band reading.limit state _
part_payload reading Over state payload = tt
part_payload reading place state payload = part_late _

part_not_whole : (verdict : Verdict) → IsPart verdict → verdict ≡ Whole → ⊥
part_not_whole Whole h e = h
part_not_whole verdict h e = cc

pub data_not_whole : (reading : Reading) (state : State) (place : Point) (payload : List ℕ) → state.place ≡ place
    → judge_at reading state (Data payload) ≡ Whole → ⊥
data_not_whole reading state place payload here e =
    part_not_whole _ (part_payload reading place state payload)
    (whole_unless (peer_error payload) _ (sym (data_judged reading state place payload here) ∙ e))

for_packet : (verdict : Verdict) → IsPart verdict → IsForPacket verdict
for_packet Whole h = tt
for_packet verdict h = h

flush_for_packet : (ends : Ends) → IsForPacket (at_flush ends)
flush_for_packet Plain = tt
flush_for_packet Response = tt

there_for_packet : (reading : Reading) (place : Point) (state : State) (packet : Packet)
    → IsForPacket (judge_there reading place state packet)
there_for_packet reading place state (Data payload) =
    subst IsForPacket (sym (data_there reading place state payload))
    (past_error (peer_error payload) _ (for_packet _ (part_payload reading place state payload)))
there_for_packet reading Acking state Flush = flush_for_packet reading.ends
there_for_packet reading AfterNak state Flush = flush_for_packet reading.ends
there_for_packet reading InPack state Flush = flush_for_packet reading.ends
there_for_packet reading Over state Delim = tt
there_for_packet reading Over state ResponseEnd = tt
there_for_packet reading place state packet = tt

pub refuses_packets : (reading : Reading) → RefusesPackets (judge reading)
unfolding judge_at
refuses_packets reading front packet =
    there_for_packet reading (state_of reading front).place (state_of reading front) packet

-- ---- texts after which a reply continues

pub start_open : (form : ReplyForm) → judge_start form ≡ Open → form ≡ Acknowledgments
start_open Acknowledgments e = refl
start_open form e = cc

pub before_open : (form : ReplyForm) → judge_before_pack form ≡ Open → form ≡ Packfile
before_open Packfile e = refl
before_open form e = cc

-- the kinds of texts that may follow in the acknowledgments
pub data AckingOn (limits : Limits) (format : Format) (state : State) : ReplyForm → Type 0 where
  an_ack : (digits id : List ℕ) → id_of_text format digits ≡ Some id → state.ack_count < max_acks limits
      → AckingOn limits format state (Ack digits)
  a_nak : state.ack_count ≡ 0 → AckingOn limits format state Nak
  a_readiness : AckingOn limits format state Readiness

nak_open : (state : State) (test : Bool) → nat_lt 0 state.ack_count ≡ test → cond test (Refused why.WrongSection) Open ≡ Open → state.ack_count ≡ 0
nak_open state true is e = cc
nak_open state false is e = omega (arith, ltb-false 0 state.ack_count is)

ack_open : (limits : Limits) (format : Format) (state : State) (digits : List ℕ) (id : Option (List ℕ))
    → id_of_text format digits ≡ id
    → cond (is_some id) (if_room (nat_lt state.ack_count (max_acks limits))) (Refused why.BadId) ≡ Open
    → AckingOn limits format state (Ack digits)
ack_open limits format state digits None is e = cc
ack_open limits format state digits (Some id) is e =
    an_ack digits id is (ltb-true state.ack_count (max_acks limits) (room_left _ e))

pub acking_open : (limits : Limits) (format : Format) (state : State) (form : ReplyForm)
    → judge_acking limits format state form ≡ Open → AckingOn limits format state form
acking_open limits format state Nak e = a_nak (nak_open state _ refl e)
acking_open limits format state Readiness e = a_readiness
acking_open limits format state (Ack digits) e = ack_open limits format state digits _ refl e
acking_open limits format state form e = cc

pub open_acking : (limits : Limits) (format : Format) (state : State) (form : ReplyForm)
    → AckingOn limits format state form → judge_acking limits format state form ≡ Open
open_acking limits format state (Ack digits) (an_ack d id is few) =
    ap
    (λ (o : Option (List ℕ)). cond (is_some o) (if_room (nat_lt state.ack_count (max_acks limits))) (Refused why.BadId))
    is
    ∙ room_goes_on _ (lt-ltb state.ack_count (max_acks limits) few)
open_acking limits format state Nak (a_nak none) =
    ap (λ (n : ℕ). cond (nat_lt 0 n) (Refused why.WrongSection) Open) none
open_acking limits format state Readiness a_readiness = refl
open_acking limits format state form on = elim on [ ]

-- an accepted packet of the pack's section: data or progress, within the limits
pub record BandOn (limit : ℕ) (state : State) (form : Result BandPacket BandFault) : Type 0 where
  pub is : IsDataOrProgress form
  pub few : state.band_count < max_packets
  pub short : state.byte_count + length (data_in form) ≤ limit

pub band_open : (limit : ℕ) (state : State) (form : Result BandPacket BandFault) → state.byte_count ≤ limit → judge_band limit state form ≡ Open → BandOn limit state form
band_open limit state (Err fault) within e = cc
band_open limit state (Ok (Fatal bytes)) within e = cc
band_open limit state (Ok (BandData bytes)) within e =
    let both = and_parts _ _ (room_left _ e) in
    record { is = tt; few = ltb-true state.band_count max_packets both.0; short = leb-true _ limit both.1 }
band_open limit state (Ok (Progress bytes)) within e =
    record { is = tt; few = ltb-true state.band_count max_packets (room_left _ e); short = omega arith }

pub open_band : (limit : ℕ) (state : State) (form : Result BandPacket BandFault) → BandOn limit state form → judge_band limit state form ≡ Open
open_band limit state (Err fault) h = absurd h.is
open_band limit state (Ok (Fatal bytes)) h = absurd h.is
open_band limit state (Ok (BandData bytes)) h =
    room_goes_on _ (and_from _ _ (lt-ltb state.band_count max_packets h.few) (le-leb _ limit h.short))
open_band limit state (Ok (Progress bytes)) h = room_goes_on _ (lt-ltb state.band_count max_packets h.few)

-- ---- after the flush

pub over_whole : (packet : Packet) → after_flush packet ≡ Whole → packet ≡ ResponseEnd
over_whole (Data payload) e = absurd (let no = whole_unless (peer_error payload) _ e in cc)
over_whole ResponseEnd e = refl
over_whole packet e = cc

pub over_not_open : (packet : Packet) → after_flush packet ≡ Open → ⊥
over_not_open (Data payload) e = let no = open_unless (peer_error payload) _ e in cc
over_not_open packet e = cc

pub late_not_open : (form : ReplyForm) → judge_late form ≡ Open → ⊥
late_not_open OtherForm e = cc
late_not_open form e = cc
