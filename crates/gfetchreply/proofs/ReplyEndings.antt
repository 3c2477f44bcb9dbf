-- Each open list of packets can be completed to a reply, and has a bounded length.
use Rattle.std.proofs.Common.{◌≡◌, ℕ, ◌+◌, ◌≤◌, ◌<◌, ◌^◌, List, [], ◌∷◌, ◌++◌, length, length-append, codes, inl, refl, sym, ap, subst, ◌∙◌, arith}
use Rattle.gpkt.specs.Packets.{Packet, Data, Flush, Delim, ResponseEnd, text, line_feed}
use Rattle.gpkt.specs.Bands.{band_form}
use Rattle.ggrammar.specs.Grammar.{Judge, Verdict, Open, Refused, IsOpen, IsWhole, HasEndings}
use Rattle.ggrammar.specs.Endings.{ends_with}
use Rattle.ggrammar.specs.declared.ends.Ends.{Ends}
use Rattle.ggrammar.specs.declared.ends.Ends.TheVariants.{Plain, Response}
use Rattle.ggrammar.specs.declared.fault.Why.{Why}
use Rattle.gfetchreply.proofs.ReplyForms.{word_there, form_reports_none}
use Rattle.gfetchreply.specs.FetchReplies.{Reading, State, Point, Start, Acking, AfterNak, AfterReady, BeforePack, InPack, Over}
use Rattle.gfetchreply.specs.FetchReplies.{ReplyForm, Acknowledgments, Nak, Readiness, Packfile, Ack, reply_form}
use Rattle.gfetchreply.specs.FetchReplies.{max_acks, max_packets, state_of, judge, judge_at, judge_start, judge_before_pack, next_place, bands_there}
use Rattle.gfetchreply.proofs.ReplyVerdicts.{state_after, OpenFrom-from_open, IsWhole-from_left, WholeFrom-after_open}
use Rattle.gfetchreply.proofs.ReplyVerdicts.{start, state_from_start, judge_is, IsWholeAt, IsOpenAt, at_place}
use Rattle.gfetchreply.proofs.ReplyVerdicts.{data_open, open_data, start_open, before_open, late_not_open, AckingOn}
use Rattle.gfetchreply.proofs.ReplyVerdicts.{an_ack, a_nak, a_readiness, acking_open, BandOn, band_open, over_not_open}
use Rattle.gfetchreply.proofs.ReplySections.{onward, rest_flush, next-heading, next-delim, next-packfile}
use Rattle.gfetchreply.proofs.StateLemmas.{acks_there, moved, moves, next_state, state-ack, state-acking, state-band}

-- ---- completing a reply

-- at most four packets that complete a reply from this state
record Ending (reading : Reading) (state : State) : Type 0 where
  more : List Packet
  few : length more ≤ 4
  whole : IsWholeAt reading state more

few_ends : (ends : Ends) → length (ends_with ends) ≤ 1
few_ends Plain = omega arith
few_ends Response = omega arith

packfile_line : List ℕ
packfile_line = codes "packfile" ++ line_feed ∷ []

heading_line : List ℕ
heading_line = codes "acknowledgments" ++ line_feed ∷ []

packfile_is : reply_form (text packfile_line) ≡ Packfile
unfolding packfile_line
packfile_is = word_there (text packfile_line) Packfile tt refl

heading_is : reply_form (text heading_line) ≡ Acknowledgments
unfolding heading_line
heading_is = word_there (text heading_line) Acknowledgments tt refl

ends_before : (reading : Reading) (state : State) → state.place ≡ BeforePack → IsWholeAt reading state (Data packfile_line ∷ Flush ∷ ends_with reading.ends)
ends_before reading state here =
    onward reading state (moved state InPack) (Data packfile_line) _
    (open_data reading state BeforePack packfile_line here (form_reports_none packfile_line Packfile packfile_is tt) (ap judge_before_pack packfile_is))
    (next-packfile reading.format state packfile_line here packfile_is)
    (rest_flush reading (moved state InPack) InPack refl refl refl)

ends_after_ready : (reading : Reading) (state : State) → state.place ≡ AfterReady
    → IsWholeAt reading state (Delim ∷ Data packfile_line ∷ Flush ∷ ends_with reading.ends)
ends_after_ready reading state here =
    onward reading state (moved state BeforePack) Delim _ (at_place reading state AfterReady Delim here)
    (next-delim reading.format state here) (ends_before reading (moved state BeforePack) refl)

ends_start : (reading : Reading) (state : State) → state.place ≡ Start → IsWholeAt reading state (Data heading_line ∷ Flush ∷ ends_with reading.ends)
ends_start reading state here =
    onward reading state (moved state Acking) (Data heading_line) _
    (open_data reading state Start heading_line here (form_reports_none heading_line Acknowledgments heading_is tt) (ap judge_start heading_is))
    (next-heading reading.format state heading_line here heading_is)
    (rest_flush reading (moved state Acking) Acking refl refl refl)

as_ending : (reading : Reading) (state : State) (more : List Packet) → length more ≤ 2
    → IsWholeAt reading state (more ++ Flush ∷ ends_with reading.ends) → Ending reading state
as_ending reading state more few whole =
    let one = few_ends reading.ends in
    record {
      more = more ++ Flush ∷ ends_with reading.ends;
      few = omega (arith, length-append more (Flush ∷ ends_with reading.ends));
      whole = whole;
    }

ending : (reading : Reading) (state : State) (place : Point) → state.place ≡ place → Ending reading state
ending reading state Start here =
    as_ending reading state (Data heading_line ∷ []) (omega arith) (ends_start reading state here)
ending reading state AfterReady here =
    as_ending reading state (Delim ∷ Data packfile_line ∷ []) (omega arith) (ends_after_ready reading state here)
ending reading state BeforePack here =
    as_ending reading state (Data packfile_line ∷ []) (omega arith) (ends_before reading state here)
ending reading state Over here = record { more = ResponseEnd ∷ []; few = omega arith; whole = inl (at_place reading state Over ResponseEnd here, refl) }
ending reading state place here =
    as_ending reading state [] (omega arith) (rest_flush reading state place here refl refl)

open_at : (reading : Reading) (front : List Packet) → IsOpen (judge reading) front → IsOpenAt reading (start reading) front
open_at reading front opened =
    OpenFrom-from_open (judge_at reading) (next_state reading.format) (start reading) front
    (subst (λ (j : Judge). IsOpen j front) (judge_is reading) opened)

pub short_ending : (reading : Reading) (front : List Packet) → IsOpen (judge reading) front
    → (more : List Packet) × (length more ≤ 4) × IsWhole (judge reading) (front ++ more)
short_ending reading front opened =
    let there = state_after (judge_at reading) (next_state reading.format) (start reading) front in
    let last = ending reading there there.place refl in (
      last.more,
      last.few,
      subst (λ (j : Judge). IsWhole j (front ++ last.more)) (sym (judge_is reading))
          (IsWhole-from_left (judge_at reading) (next_state reading.format) (start reading) (front ++ last.more)
          (WholeFrom-after_open (judge_at reading) (next_state reading.format) (start reading) front last.more (open_at reading front opened) last.whole)),
    )

pub HasEndings-judge : (reading : Reading) → HasEndings (judge reading)
HasEndings-judge reading front opened = let last = short_ending reading front opened in (last.0, last.2)

-- ---- the number of packets

-- the maximum number of further packets before the last, not counting acknowledged ids and packets of the pack
due : Point → ℕ
due Start = 5
due Acking = 4
due AfterNak = 1
due AfterReady = 3
due BeforePack = 2
due InPack = 1
due Over = 0

record Within (reading : Reading) (state : State) : Type 0 where
  ack_count : state.ack_count ≤ max_acks reading.limits
  band_count : state.band_count ≤ max_packets
  byte_count : state.byte_count ≤ reading.limit

-- one more packet reduces the number of further packets or raises a count, and the counts stay within the limits
record Step (reading : Reading) (old new : State) : Type 0 where
  fewer : due new.place + 1 + (old.ack_count + old.band_count) ≤ due old.place + (new.ack_count + new.band_count)
  within : Within reading new

as_step : (reading : Reading) (old a b : State) → a ≡ b → Step reading old b → Step reading old a
as_step reading old a b e h = subst (λ (s : State). Step reading old s) (sym e) h

move_step : (reading : Reading) (state : State) (from to : Point) → state.place ≡ from → Within reading state → due to < due from → Step reading state (moved state to)
move_step reading state from to here within less =
    let same : due state.place ≡ due from = ap due here in record { fewer = omega arith; within = record { ack_count = within.ack_count; band_count = within.band_count; byte_count = within.byte_count } }

acking_step : (reading : Reading) (state : State) (payload : List ℕ) (form : ReplyForm) → state.place ≡ Acking → Within reading state → reply_form (text payload) ≡ form
    → AckingOn reading.limits reading.format state form
    → Step reading state (next_state reading.format state (Data payload))
unfolding due
acking_step reading state payload (Ack digits) here within is (an_ack d id spells few) =
    let same : due state.place ≡ due Acking = ap due here in
    as_step reading state _ _ (state-ack reading.format state payload digits id here is spells)
    (record {
      fewer = omega arith;
      within = record { ack_count = omega arith; band_count = within.band_count; byte_count = within.byte_count };
    })
acking_step reading state payload Nak here within is (a_nak none) =
    as_step reading state _ _ (state-acking reading.format state payload Nak here is refl) (move_step reading state Acking AfterNak here within (omega arith))
acking_step reading state payload Readiness here within is a_readiness =
    as_step reading state _ _ (state-acking reading.format state payload Readiness here is refl) (move_step reading state Acking AfterReady here within (omega arith))
acking_step reading state payload form here within is on = elim on [ ]

band_step : (reading : Reading) (state : State) (payload : List ℕ) → state.place ≡ InPack → Within reading state → BandOn reading.limit state (band_form payload)
    → Step reading state (next_state reading.format state (Data payload))
band_step reading state payload here within on =
    let same : due state.place ≡ due InPack = ap due here in
    let few = on.few in
    as_step reading state _ _ (state-band reading.format state payload here) (record { fewer = omega arith; within = record { ack_count = within.ack_count; band_count = omega arith; byte_count = on.short } })

flush_step : (reading : Reading) (state : State) (place : Point) → state.place ≡ place → Within reading state
    → acks_there reading.format place Flush ≡ [] → bands_there place Flush ≡ [] → next_place place Flush ≡ Over
    → 0 < due place
    → Step reading state (next_state reading.format state Flush)
unfolding due
flush_step reading state place here within no_acks no_bands over some =
    as_step reading state _ _ (moves reading.format state place Over Flush here over no_acks no_bands)
    (move_step reading state place Over here within some)

no_step : (reading : Reading) (state new : State) (v : Verdict) (why : Why) → v ≡ Refused why → v ≡ Open → Step reading state new
no_step reading state new v why is e = absurd cc

step_at : (reading : Reading) (state : State) (place : Point) (packet : Packet) → state.place ≡ place → Within reading state → judge_at reading state packet ≡ Open
    → Step reading state (next_state reading.format state packet)
unfolding due
step_at reading state Start (Data payload) here within goes =
    let form : reply_form (text payload) ≡ Acknowledgments = start_open _ (data_open reading state Start payload here goes) in
    as_step reading state _ _ (next-heading reading.format state payload here form) (move_step reading state Start Acking here within (omega arith))
step_at reading state Acking (Data payload) here within goes =
    acking_step reading state payload _ here within refl
    (acking_open reading.limits reading.format state _ (data_open reading state Acking payload here goes))
step_at reading state AfterNak (Data payload) here within goes = absurd (late_not_open _ (data_open reading state AfterNak payload here goes))
step_at reading state AfterReady (Data payload) here within goes = absurd (late_not_open _ (data_open reading state AfterReady payload here goes))
step_at reading state BeforePack (Data payload) here within goes =
    let form : reply_form (text payload) ≡ Packfile = before_open _ (data_open reading state BeforePack payload here goes) in
    as_step reading state _ _ (next-packfile reading.format state payload here form) (move_step reading state BeforePack InPack here within (omega arith))
step_at reading state InPack (Data payload) here within goes =
    band_step reading state payload here within (band_open reading.limit state (band_form payload) within.byte_count (data_open reading state InPack payload here goes))
step_at reading state Over packet here within goes = absurd (over_not_open packet (sym (at_place reading state Over packet here) ∙ goes))
step_at reading state Acking Flush here within goes = flush_step reading state Acking here within refl refl refl (omega arith)
step_at reading state AfterNak Flush here within goes = flush_step reading state AfterNak here within refl refl refl (omega arith)
step_at reading state InPack Flush here within goes = flush_step reading state InPack here within refl refl refl (omega arith)
step_at reading state AfterReady Delim here within goes =
    as_step reading state _ _ (next-delim reading.format state here) (move_step reading state AfterReady BeforePack here within (omega arith))
step_at reading state place packet here within goes =
    no_step reading state _ _ _ (at_place reading state place packet here) goes

due_few : (place : Point) → due place ≤ 5
unfolding due
due_few Start = omega arith
due_few place = omega arith

few_from : (reading : Reading) (state : State) (front : List Packet) → Within reading state → IsOpenAt reading state front
    → length front + (state.ack_count + state.band_count) ≤ due state.place + (max_acks reading.limits + max_packets)
few_from reading state [] within opened = let acks = within.ack_count in let packets = within.band_count in omega arith
few_from reading state (packet ∷ rest) within opened =
    let one = step_at reading state state.place packet refl within opened.0 in
    let fewer = one.fewer in
    let more = few_from reading (next_state reading.format state packet) rest one.within opened.1 in
    omega arith

pub open_is_short : (reading : Reading) (front : List Packet) → IsOpen (judge reading) front → length front < 2 ^ 60
open_is_short reading front opened =
    let few = few_from reading (start reading) front (record { ack_count = omega arith; band_count = omega arith; byte_count = omega arith }) (open_at reading front opened) in
    let five = due_few (start reading).place in
    omega arith

-- ---- the pack's limit

bytes_within : (reading : Reading) (state : State) (front : List Packet) → Within reading state → IsOpenAt reading state front
    → (state_after (judge_at reading) (next_state reading.format) state front).byte_count ≤ reading.limit
bytes_within reading state [] within opened = within.byte_count
bytes_within reading state (packet ∷ rest) within opened =
    bytes_within reading (next_state reading.format state packet) rest (step_at reading state state.place packet refl within opened.0).within opened.1

-- the data of the pack in an open list of packets is within the size limit
pub open_keeps_limit : (reading : Reading) (front : List Packet) → IsOpen (judge reading) front → (state_of reading front).byte_count ≤ reading.limit
open_keeps_limit reading front opened =
    subst (λ (s : State). s.byte_count ≤ reading.limit) (sym (state_from_start reading front))
    (bytes_within reading (start reading) front (record { ack_count = omega arith; band_count = omega arith; byte_count = omega arith }) (open_at reading front opened))
