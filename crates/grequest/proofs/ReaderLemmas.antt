-- Reading a request. The state after some packets accepts exactly the packets that may follow them. The reader
-- returns `None` exactly if the input is empty.
use Rattle.std.proofs.Common.{◌≡◌, Bool, List, [], ◌∷◌, ◌++◌, codes, Result, Ok, Err, refl, sym, ap, subst, ◌∙◌, ℕ, ◌<◌}
use Rattle.std.proofs.Common.{length, map, Option, Some, None, inl, inr, arith}
use Rattle.gpkt.specs.Packets.{Packet, Data, Flush, SpellsAll, text}
use Rattle.gname.specs.declared.formats.Format.{Format}
use Rattle.gname.specs.declared.formats.Format.TheVariants.{Sha1, Sha256}
use Rattle.ggrammar.specs.Grammar.{Judge, Open, Whole, Refused, IsWhole}
use Rattle.ggrammar.specs.declared.limits.Limits.{Limits}
use Rattle.ggrammar.specs.PeerErrors.{after_word}
use Rattle.ggrammar.specs.declared.fault.Why.TheVariants.{Format as WrongFormat}
use Rattle.grequest.specs.Arguments.{command_form}
use Rattle.grequest.specs.declared.command.Command.{Command}
use Rattle.grequest.specs.declared.command.Command.TheVariants.{LsRefs, Fetch}
use Rattle.ggrammar.specs.MessageReading.{IsAccepted, IsReason, TakesAs, TakesPacket, IsReasonAfter}
use Rattle.ggrammar.specs.declared.fault.Why.{Why}
use Rattle.ggrammar.specs.declared.message.Step.{Step}
use Rattle.ggrammar.specs.declared.message.Step.TheVariants as step
use Rattle.grequest.specs.RequestLines.{place_of, asked_by_command, asked_by_lines, capability_texts, argument_texts}
use Rattle.grequest.specs.Requests.{State, state_of, judge, judge_at, brings, Says}
use Rattle.grequest.specs.Manual.{AreFew, IsRequest}
use Rattle.grequest.specs.steps.Building.{IsWithin}
use Rattle.grequest.specs.steps.RequestState.{with_packet, RequestSoFar, packet_brings, HoldsPackets, LeavesNothing}
use Rattle.grequest.proofs.StateLemmas.{state_of-push}
use Rattle.std.specs.Prelude.{IfErr}
use Rattle.std.proofs.lemmas.List.{length-append}
use Rattle.gpkt.specs.Laws.{HasFourBytes}
use Rattle.gpkt.specs.PacketReading.{Reads, ReadsPackets}
use Rattle.gpkt.specs.declared.fault.PacketFault.{PacketFault}
use Rattle.gpkt.specs.declared.fault.PacketFault.TheVariants as packet_fault
use Rattle.ggrammar.specs.Kinds.{ReadsIfAny}
use Rattle.ggrammar.specs.MessageBytes.{known_bytes, IsOfBytes, LawsOfBytes}
use Rattle.ggrammar.specs.declared.fault.Why.TheVariants as why
use Rattle.ggrammar.specs.declared.fault.MessageFault.{MessageFault}
use Rattle.grequest.specs.Asked.{Asked}
use Rattle.grequest.specs.RequestReading.{IsMissingWhereEmpty, IsNotMissing}

brings_is : (front : List Packet) (packet : Packet) → packet_brings (place_of front) packet ≡ brings front packet
brings_is front (Data payload) = refl
brings_is front _ = refl

-- the state of reading after a packet that the judge accepts
holds_more : (old new : RequestSoFar) (front : List Packet) (packet : Packet) → HoldsPackets old front → new.format ≡ old.format
    → IsAccepted (judge old.limits old.format front packet) → new.state ≡ with_packet old.format old.state packet → HoldsPackets new (front ++ packet ∷ [])
holds_more old new front packet held same taken adds =
    adds ∙ (ap (λ (state : State). with_packet old.format state packet) held ∙ (sym (state_of-push old.limits old.format front packet taken)
    ∙ ap (λ (format : Format). state_of format (front ++ packet ∷ [])) (sym same)))

pub takes_after : (old new : RequestSoFar) (front : List Packet) (packet : Packet) (result : Result Step Why) → HoldsPackets old front → new.format ≡ old.format
    → TakesAs (judge_at old.limits old.format old.state packet) (packet_brings old.state.place packet) (new.state ≡ with_packet old.format old.state packet) result
    → TakesPacket (judge old.limits old.format) brings HoldsPackets LeavesNothing front packet new result
takes_after old new front packet (Ok step.Open) held same taken =
    let judged : judge old.limits old.format front packet ≡ Open = ap (λ (state : State). judge_at old.limits old.format state packet) (sym held) ∙ taken.0 in
    (judged, holds_more old new front packet held same (subst IsAccepted (sym judged) tt) taken.1)
takes_after old new front packet (Ok step.Whole) held same taken =
    let judged : judge old.limits old.format front packet ≡ Whole = ap (λ (state : State). judge_at old.limits old.format state packet) (sym held) ∙ taken.0 in
    (judged, holds_more old new front packet held same (subst IsAccepted (sym judged) tt) taken.1)
takes_after old new front packet (Err why) held same taken = (
  subst (λ (b : Bool). IsReason (judge old.limits old.format front packet) b why) (brings_is front packet)
      (subst (λ (state : State). IsReason (judge_at old.limits old.format state packet) (packet_brings state.place packet) why) held taken),
  tt,
)

-- ---- the judges for the two object formats, which differ

-- a request that names no format
abbrev unnamed : List Packet
unnamed = Data (codes "command=fetch") ∷ []

sha1_takes : (limits : Limits) → judge limits Sha1 unnamed Flush ≡ Whole
unfolding judge_at command_form after_word capability_texts argument_texts
sha1_takes limits = refl

sha256_refuses : (limits : Limits) → judge limits Sha256 unnamed Flush ≡ Refused WrongFormat
unfolding judge_at command_form after_word capability_texts argument_texts
sha256_refuses limits = refl

differ : (one other : Limits) → judge one Sha1 ≡ judge other Sha256 → ⊥
differ one other same =
    let both = sym (sha1_takes one) ∙ (ap (λ (j : Judge). j unnamed Flush) same ∙ sha256_refuses other) in cc

format_of_judge : (one other : Limits) (format asked : Format) → judge one format ≡ judge other asked → format ≡ asked
format_of_judge one other Sha1 Sha1 same = refl
format_of_judge one other Sha1 Sha256 same = absurd (differ one other same)
format_of_judge one other Sha256 Sha1 same = absurd (differ other one (sym same))
format_of_judge one other Sha256 Sha256 same = refl

-- ---- the limits, the format, and the contents of the request

abbrev IsStart : Limits → Format → RequestSoFar → Type 0
IsStart limits format reading = reading ≡ record { limits = limits; format = format; state = state_of format [] }

judge_of_start : (limits : Limits) (format : Format) (reading : RequestSoFar) → IsStart limits format reading
    → judge reading.limits reading.format ≡ judge limits format
judge_of_start limits format reading start = ap (λ (r : RequestSoFar). judge r.limits r.format) start

-- the object format is unchanged if the judge is unchanged
pub format_of_later : (limits : Limits) (format : Format) (first reading : RequestSoFar) → IsStart limits format first
    → judge reading.limits reading.format ≡ judge first.limits first.format → reading.format ≡ format
format_of_later limits format first reading start same =
    format_of_judge reading.limits limits reading.format format (same ∙ judge_of_start limits format first start)

lines_ask : (format : Format) (reading : RequestSoFar) (lines : List Packet) → HoldsPackets reading lines → reading.format ≡ format → reading.state.asked ≡ asked_by_lines format lines
lines_ask format reading lines held same = ap (λ (state : State). state.asked) held ∙ ap (λ (f : Format). asked_by_lines f lines) same

-- a complete list of packets that a reader accepted encodes the contents that the reader holds
pub read_says : (limits : Limits) (format : Format) (first reading : RequestSoFar) (lines : List Packet) (asked : Asked)
    → IsStart limits format first → judge reading.limits reading.format ≡ judge first.limits first.format
    → IsWhole (judge first.limits first.format) lines → HoldsPackets reading lines → asked ≡ reading.state.asked
    → Says limits format lines asked
read_says limits format first reading lines asked start same whole held is = record {
  whole = subst (λ (j : Judge). IsWhole j lines) (judge_of_start limits format first start) whole;
  asks = is ∙ lines_ask format reading lines held (format_of_later limits format first reading start same);
}

-- the lists of a request that the manual allows are within the limits
lists_within : (limits : Limits) (format : Format) (command : Command) (capabilities arguments : List (List ℕ))
    → AreFew limits format command arguments → IsWithin limits (asked_by_command format command capabilities arguments)
lists_within limits format LsRefs capabilities arguments few = few
lists_within limits format Fetch capabilities arguments few = few

pub asked_within : (limits : Limits) (format : Format) (lines : List Packet) (asked : Asked)
    → IsRequest limits format lines asked → IsWithin limits asked
asked_within limits format lines asked (inl h) = subst (IsWithin limits) (sym h.1) tt
asked_within limits format lines asked (inr h) =
    subst (IsWithin limits) (sym h.asks)
    (lists_within limits format h.command (map text h.capabilities) (map text h.arguments) h.few)

-- ---- an input without a request

module _ (four : HasFourBytes) (limits : Limits) (format : Format) where
  -- no packet is read from an empty input
  no_packet : (bytes new : List ℕ) (packet : Packet) → bytes ≡ [] → Reads (known_bytes bytes new) (Ok (Some packet)) → ⊥
  no_packet bytes new packet empty read =
      let long = ap length read.1 ∙ length-append read.0 new in
      let none : length bytes ≡ 0 = ap length empty in
      let some = four packet read.0 read.2 in
      omega (arith, long, none, some)

  -- the packet reader does not reject an empty input because of its bytes
  no_fault : (bytes new : List ℕ) (fault : PacketFault) → bytes ≡ [] → IsOfBytes (why.Line fault) → Reads (known_bytes bytes new) (Err fault) → ⊥
  no_fault bytes new packet_fault.TooLong empty certain read = let none : length bytes ≡ 0 = ap length empty in omega (arith, none, read.0.1.0)
  no_fault bytes new packet_fault.Io empty certain read = certain
  no_fault bytes new packet_fault.Failed empty certain read = certain
  no_fault bytes new packet_fault.Memory empty certain read = read
  no_fault bytes new fault empty certain read = let none : length bytes ≡ 0 = ap length empty in omega (arith, none, read.0.0)

  -- if no packet was read, the end of the input is the only reason that the bytes of an empty input can cause
  no_reason : (bytes new : List ℕ) (reason : Why) → bytes ≡ [] → IsOfBytes reason → (reason ≡ why.Ended → ⊥)
      → IsReasonAfter (judge limits format) brings [] (known_bytes bytes new) reason → ⊥
  no_reason bytes new (why.Line fault) empty certain later h = no_fault bytes new fault empty certain h
  no_reason bytes new why.Ended empty certain later h = later refl
  no_reason bytes new why.Memory empty certain later h = certain
  no_reason bytes new reason empty certain later h = no_packet bytes new h.0 empty h.1

  -- an empty input encodes the empty list of packets, and no bytes remain
  left_of_nothing : (front : List Packet) (bytes spelling mid : List ℕ) → bytes ≡ [] → bytes ≡ spelling ++ mid → SpellsAll front spelling
      → (front ≡ []) × (mid ≡ [])
  left_of_nothing [] bytes spelling mid empty parts spelt =
      (refl, nothing mid (let long = ap length parts ∙ length-append spelling mid in let none : length bytes ≡ 0 = ap length empty in omega (arith, long, none)))
    where
      nothing : (xs : List ℕ) → length xs ≡ 0 → xs ≡ []
      nothing [] e = refl
      nothing (x ∷ xs) e = absurd (omega (arith, e))
  left_of_nothing (line ∷ more) bytes spelling mid empty parts spelt =
      let long = ap length parts ∙ length-append spelling mid in
      let front = ap length spelt.2 ∙ length-append spelt.0 spelt.1 in
      let none : length bytes ≡ 0 = ap length empty in
      let some = four line spelt.0 spelt.3 in
      absurd (omega (arith, long, front, none, some))

  -- the bytes of an empty input cause no fault but the end of the input before the first packet
  no_refusal : (front : List Packet) (bytes new : List ℕ) (between : Option (List ℕ)) (fault : MessageFault) → bytes ≡ [] → IsOfBytes fault.why
      → (fault.why ≡ why.Ended → 0 < fault.frame) → fault.frame ≡ length front → ReadsPackets (record { old = Some bytes; new = between }) front
      → IsReasonAfter (judge limits format) brings front (record { old = between; new = Some new }) fault.why → ⊥
  no_refusal front bytes new None fault empty certain later frame read h = read
  no_refusal front bytes new (Some mid) fault empty certain later frame read h =
      let left = left_of_nothing front bytes read.0 mid empty read.1 read.2 in
      let at : fault.frame ≡ 0 = frame ∙ ap length left.0 in
      no_reason mid new fault.why left.1 certain (λ ended. let some = later ended in omega (arith, at, some))
      (subst (λ (lines : List Packet). IsReasonAfter (judge limits format) brings lines (known_bytes mid new) fault.why) left.0 h)

  empty_is_missing : LawsOfBytes (judge limits format)
      → (bytes new : List ℕ) (result : Result (Option Asked) MessageFault)
      → ReadsIfAny (judge limits format) brings (Says limits format) (known_bytes bytes new) result → IfErr result IsNotMissing → bytes ≡ [] → result ≡ Ok None
  empty_is_missing laws bytes new (Ok None) read certain empty = refl
  empty_is_missing laws bytes new (Ok (Some asked)) read certain empty =
      let lines = read.read.bytes in
      absurd (laws.ended read.lines bytes [] new (empty, refl) (record { front = lines.0; parts = lines.1; spelt = lines.2 }) read.read.whole)
  empty_is_missing laws bytes new (Err fault) read certain empty =
      absurd (no_refusal read.0 bytes new read.1.between fault empty certain.0 certain.1 read.1.frame read.1.before read.1.reason)

  pub is_missing_where_empty : LawsOfBytes (judge limits format) → IsMissingWhereEmpty limits format
  is_missing_where_empty laws bytes new result read certain = (
    λ missing.
        (subst (ReadsIfAny (judge limits format) brings (Says limits format) (known_bytes bytes new)) missing read).0,
    empty_is_missing laws bytes new result read certain,
  )
