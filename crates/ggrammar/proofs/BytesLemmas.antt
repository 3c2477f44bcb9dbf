-- Bytes that begin with a message, and bytes that are refused. Refused bytes begin with no message and have one fault.
use Rattle.std.proofs.Common.{◌≡◌, ℕ, Bool, List, [], ◌∷◌, ◌++◌, length, inl, inr, Option, Some, None, Ok, Err, sym}
use Rattle.std.proofs.Common.{subst, ap, ◌∙◌, append_assoc, append-nil, length-append, arith, zero, suc, ◌<◌, ◌⊎◌, drop}
use Rattle.std.proofs.Common.{Result, refl}
use Rattle.gpkt.specs.Packets.{Packet, Spells, SpellsAll, digit_count}
use Rattle.gpkt.specs.PacketReading.{Reads, ReadsPackets, Gives, NoPacket}
use Rattle.gpkt.specs.Laws.{OneReading, OneBegins, RefusedIsNoPacket, HasFourBytes, EveryFront, OneOutcome}
use Rattle.gpkt.specs.declared.fault.PacketFault.{PacketFault}
use Rattle.gpkt.specs.declared.fault.PacketFault.TheVariants as packet_fault
use Rattle.ggrammar.specs.Grammar.{Judge, Whole, Refused, IsOpen, IsUnfinished, IsWhole, Verdict, Open, HasEndings}
use Rattle.ggrammar.specs.MessageReading.{IsReasonAfter, IsReason, ReadsRefused}
use Rattle.ggrammar.specs.MessageBytes.{known_bytes, IsFront, IsOfBytes, ReadsFront, ReadsNoOther, RefusedIsNoMessage}
use Rattle.ggrammar.specs.MessageBytes.{EndedIsNoMessage, SpellingsPrefixFree, IsForPacket, IsOfPacket, RefusesPackets}
use Rattle.ggrammar.specs.MessageBytes.{BeginsWithMessage, IsRefused, LawsOfBytes}
use Rattle.ggrammar.specs.declared.fault.Why.{Why}
use Rattle.ggrammar.specs.declared.fault.Why.TheVariants as why
use Rattle.ggrammar.proofs.GrammarLemmas.{nil_has_none, split_push, IsOpen-never_refuses, IsPrefixFree-always}
use Rattle.ggrammar.proofs.GrammarLemmas.{IsOpen-nil, IsOpen-push, OpenIsUnfinished-by_endings}
use Rattle.gpkt.specs.Laws as lines
use Rattle.ggrammar.specs.declared.fault.MessageFault.{MessageFault}
use Rattle.ggrammar.proofs.ReadingLemmas.{ReadsPackets-nil, ReadsPackets-push, reason_after}

module _ (judge : Judge) where
  pub reads_front : ReadsFront judge
  reads_front lines bytes rest whole at = record { whole = whole; bytes = (at.front, at.parts, at.spelt) }

  -- if a complete list of packets is a prefix of another complete list, the two lists are equal
  no_longer : (lines others more : List Packet) (bytes rest after : List ℕ) → IsWhole judge lines
      → IsWhole judge others → others ≡ lines ++ more → SpellsAll more bytes → rest ≡ bytes ++ after
      → (others ≡ lines) × (after ≡ rest)
  no_longer lines others more bytes rest after whole also longer most left =
      let none = IsPrefixFree-always judge lines more whole (subst (IsWhole judge) longer also) in
      let empty : bytes ≡ [] = subst (λ xs. SpellsAll xs bytes) none most in
      (longer ∙ ap (λ xs. lines ++ xs) none ∙ append-nil lines, sym (left ∙ ap (λ xs. xs ++ after) empty))

  -- two complete lists of packets at the front of the same bytes are equal
  same_lines : OneBegins → (lines others : List Packet) (front next rest after : List ℕ) → IsWhole judge lines → IsWhole judge others
      → SpellsAll lines front → SpellsAll others next → front ++ rest ≡ next ++ after → (others ≡ lines) × (after ≡ rest)
  same_lines begins lines others front next rest after whole also spelt read same =
      elim (begins lines others front next rest after spelt read same) [
        | inl (more, bytes, longer, most, left) ↦ no_longer _ _ _ _ _ _ whole also longer most left
        | inr (more, bytes, longer, most, left) ↦
            (let back = no_longer _ _ _ _ _ _ also whole longer most left in (sym back.0, sym back.1))
      ]

  pub reads_no_other : OneBegins → ReadsNoOther judge
  reads_no_other begins lines others bytes rest new whole at read =
      same_lines begins lines others at.front read.bytes.0 rest new whole read.whole at.spelt read.bytes.2 (sym at.parts ∙ read.bytes.1)

  pub spellings_prefix_free : OneBegins → SpellingsPrefixFree judge
  spellings_prefix_free begins lines others bytes rest whole also spelt read =
      let h = same_lines begins lines others bytes (bytes ++ rest) rest [] whole also spelt read (sym (append-nil (bytes ++ rest))) in
      (h.0, sym h.1)

  -- no complete list contains a packet that the judge rejects
  refused_is_not_whole : (front more : List Packet) (packet : Packet) (reason : Why) → judge front packet ≡ Refused reason
      → IsWhole judge (front ++ packet ∷ more) → ⊥
  refused_is_not_whole front more packet reason refuses whole =
      elim (split_push whole.front whole.last front packet more (sym whole.parts)) [
        | inl h ↦ (let ends : judge front packet ≡ Whole = cc (whole.ends, h.0, h.1) in cc)
        | inr h ↦ IsOpen-never_refuses front packet h.0 reason (subst (IsOpen judge) h.1 whole.goes) refuses
      ]

  module _ (one : OneReading) (no_packet : RefusedIsNoPacket) (four : HasFourBytes) (brings : List Packet → Packet → Bool) where
    -- the bytes `mid` begin with the packet `line`, which the judge accepts after the packets `front`
    module _ (front : List Packet) (line : Packet) (mid new spelling rest : List ℕ) (parts : mid ≡ spelling ++ rest)
        (spelt : Spells line spelling) (fits : (reason : Why) → judge front line ≡ Refused reason → ⊥) where
      refuses_packet : (reason : Why) (packet : Packet) → Reads (known_bytes mid new) (Ok (Some packet)) → judge front packet ≡ Refused reason → ⊥
      refuses_packet reason packet read refuses =
          let same : line ≡ packet = (one line packet spelling read.0 rest new spelt read.2 (sym parts ∙ read.1)).0 in
          fits reason (ap (judge front) same ∙ refuses)

      refuses_packet_fault : (fault : PacketFault) → IsOfBytes (why.Line fault) → Reads (known_bytes mid new) (Err fault) → ⊥
      refuses_packet_fault packet_fault.Io certain read = certain
      refuses_packet_fault packet_fault.Failed certain read = certain
      refuses_packet_fault packet_fault.Memory certain read = read
      refuses_packet_fault fault certain read = no_packet fault line mid spelling rest read.0 (sym parts) spelt

      ends : Reads (known_bytes mid new) (Ok None) → ⊥
      ends read =
          let bytes = ap length parts ∙ length-append spelling rest in
          let none : length mid ≡ 0 = ap length read.0 in
          let some = four line spelling spelt in
          omega (arith, bytes, none, some)

      pub refuses : (reason : Why) → IsOfBytes reason → IsReasonAfter judge brings front (known_bytes mid new) reason → ⊥
      refuses (why.Line fault) certain h = refuses_packet_fault fault certain h
      refuses why.Ended certain h = ends h
      refuses why.Memory certain h = certain
      refuses reason certain h = refuses_packet reason h.0 h.1 h.2

    -- bytes that are refused after the packets `front` do not begin with a complete message
    refused_at : OneBegins → (front lines : List Packet) (bytes new rest : List ℕ) (between : Option (List ℕ)) (reason : Why)
        → IsUnfinished judge front → ReadsPackets (record { old = Some bytes; new = between }) front
        → IsReasonAfter judge brings front (record { old = between; new = Some new }) reason → IsOfBytes reason
        → IsFront lines bytes rest → IsWhole judge lines → ⊥
    refused_at begins front lines bytes new rest None reason before read h certain at whole = read
    refused_at begins front lines bytes new rest (Some mid) reason before read h certain at whole =
        elim (begins lines front at.front read.0 rest mid at.spelt read.2 (sym at.parts ∙ read.1)) [
          | inl (more, spelling, longer, most, left) ↦ before.unfinished lines more longer whole
          | inr ([], spelling, longer, most, left) ↦
              before.unfinished front [] (sym (append-nil front)) (subst (IsWhole judge) (longer ∙ append-nil front) whole)
          | inr (line ∷ more, spelling, longer, most, left) ↦
              refuses front line mid new most.0 (most.1 ++ rest)
              (left ∙ ap (λ xs. xs ++ rest) most.2 ∙ append_assoc most.0 most.1 rest) most.3
              (λ why is. refused_is_not_whole front more line why is (subst (IsWhole judge) longer whole)) reason certain h
        ]

  pub refused_is_no_message : OneBegins → OneReading → RefusedIsNoPacket → HasFourBytes → RefusedIsNoMessage judge
  refused_is_no_message begins one no_packet four brings front lines bytes new rest fault h certain at =
      refused_at one no_packet four brings begins front lines bytes new rest h.between fault.why h.unfinished h.before
      h.reason certain at

  pub ended_is_no_message : HasFourBytes → EndedIsNoMessage judge
  ended_is_no_message four [] bytes new rest read at whole = nil_has_none whole.front whole.last [] whole.parts
  ended_is_no_message four (line ∷ more) bytes new rest read at whole =
      let spelt = at.spelt in
      let parts = ap length at.parts ∙ length-append at.front rest in
      let front = ap length spelt.2 ∙ length-append spelt.0 spelt.1 in
      let none : length bytes ≡ 0 = ap length read.0 in
      let some = four line spelt.0 spelt.3 in
      omega (arith, parts, front, none, some)

-- ---- bytes that are refused

module _ (judge : Judge) (brings : List Packet → Packet → Bool) where
  -- ---- one refusal

  -- the result of reading the next packet explains why the message is rejected after the packets `front`
  abbrev Explains : List Packet → Result (Option Packet) PacketFault → Why → Type 0
  Explains front (Err fault) reason = reason ≡ why.Line fault
  Explains front (Ok None) reason = reason ≡ why.Ended
  Explains front (Ok (Some packet)) reason = judge front packet ≡ Refused reason

  record Reason (front : List Packet) (mid new : List ℕ) (reason : Why) : Type 0 where
    outcome : Result (Option Packet) PacketFault
    gives : Gives mid new outcome
    certain : lines.IsOfBytes outcome
    explains : Explains front outcome reason

  reason_of : (front : List Packet) (mid new : List ℕ) (reason : Why) → IsOfBytes reason → IsReasonAfter judge brings front (known_bytes mid new) reason
      → Reason front mid new reason
  reason_of front mid new (why.Line packet_fault.Io) certain h = absurd certain
  reason_of front mid new (why.Line packet_fault.Failed) certain h = absurd certain
  reason_of front mid new (why.Line packet_fault.Memory) certain h = absurd h
  reason_of front mid new (why.Line fault) certain h =
      record { outcome = Err fault; gives = h; certain = (λ e. cc, λ e. cc); explains = refl }
  reason_of front mid new why.Ended certain h = record { outcome = Ok None; gives = h; certain = (λ e. cc, λ e. cc); explains = refl }
  reason_of front mid new why.Memory certain h = absurd certain
  reason_of front mid new reason certain h =
      record { outcome = Ok (Some h.0); gives = h.1; certain = (λ e. cc, λ e. cc); explains = h.2 }

  one_explained : (front : List Packet) (outcome : Result (Option Packet) PacketFault) (one other : Why)
      → Explains front outcome one → Explains front outcome other → one ≡ other
  one_explained front (Err fault) one other a b = a ∙ sym b
  one_explained front (Ok None) one other a b = a ∙ sym b
  one_explained front (Ok (Some packet)) one other a b = cc (a, b)

  -- the message is rejected with this fault after the packets `front`, because of the content of the bytes
  record Refuses (front : List Packet) (between : Option (List ℕ)) (new : List ℕ) (fault : MessageFault) : Type 0 where
    goes : IsOpen judge front
    frame : fault.frame ≡ length front
    reason : IsReasonAfter judge brings front (record { old = between; new = Some new }) fault.why
    certain : IsOfBytes fault.why

  -- two refusals of the same bytes have the same fault and leave the same bytes
  module _ (law : OneOutcome) (one : OneReading) (no_packet : RefusedIsNoPacket) (four : HasFourBytes) where
    one_after : (front : List Packet) (mid new after : List ℕ) (fault other : MessageFault)
        → Refuses front (Some mid) new fault → Refuses front (Some mid) after other → (fault ≡ other) × (new ≡ after)
    one_after front mid new after fault other h k =
        let a = reason_of front mid new fault.why h.certain h.reason in
        let b = reason_of front mid after other.why k.certain k.reason in
        let same = law mid new after a.outcome b.outcome a.gives b.gives a.certain b.certain in
        let explains = subst (λ outcome. Explains front outcome fault.why) same.0 a.explains in
        let reason = one_explained front b.outcome fault.why other.why explains b.explains in
        ((λ i. record { frame = (h.frame ∙ sym k.frame) i; why = reason i }), same.1)

    -- two refusals are equal if the packets before the one are a prefix of the packets before the other
    one_further : (front others more : List Packet) (mid next new after bytes : List ℕ) (fault other : MessageFault)
        → others ≡ front ++ more → SpellsAll more bytes → mid ≡ bytes ++ next
        → Refuses front (Some mid) new fault → Refuses others (Some next) after other → (fault ≡ other) × (new ≡ after)
    one_further front others [] mid next new after bytes fault other longer spelt left h k =
        one_after front mid new after fault other h
        (subst (λ ls. Refuses ls (Some mid) after other) (longer ∙ append-nil front)
        (subst (λ xs. Refuses others (Some xs) after other) (sym (left ∙ ap (λ xs. xs ++ next) spelt)) k))
    one_further front others (line ∷ more) mid next new after bytes fault other longer spelt left h k =
        absurd (refuses judge one no_packet four brings front line mid new spelt.0 (spelt.1 ++ next)
        (left ∙ ap (λ xs. xs ++ next) spelt.2 ∙ append_assoc spelt.0 spelt.1 next) spelt.3
        (λ why is. IsOpen-never_refuses front line more why (subst (IsOpen judge) longer k.goes) is)
        fault.why h.certain h.reason)

    -- two refusals of the same bytes are equal, after whichever packets they occur
    one_between : OneBegins → (front others : List Packet) (bytes new after : List ℕ) (fault other : MessageFault)
        (between beyond : Option (List ℕ)) → ReadsPackets (record { old = Some bytes; new = between }) front
        → ReadsPackets (record { old = Some bytes; new = beyond }) others → Refuses front between new fault
        → Refuses others beyond after other → (fault ≡ other) × (new ≡ after)
    one_between begins front others bytes new after fault other None beyond read also h k = absurd read
    one_between begins front others bytes new after fault other (Some mid) None read also h k = absurd also
    one_between begins front others bytes new after fault other (Some mid) (Some next) read also h k =
        elim (begins front others read.0 also.0 mid next read.2 also.2 (sym read.1 ∙ also.1)) [
          | inl (more, spelling, longer, most, left) ↦ one_further _ _ _ _ _ _ _ spelling _ _ longer most left h k
          | inr (more, spelling, longer, most, left) ↦
              (let back = one_further _ _ _ _ _ _ _ spelling _ _ longer most left k h in (sym back.0, sym back.1))
        ]

    pub one_refusal : OneBegins → (front others : List Packet) (bytes new after : List ℕ) (fault other : MessageFault)
        → ReadsRefused judge brings front (known_bytes bytes new) fault
        → ReadsRefused judge brings others (known_bytes bytes after) other
        → IsOfBytes fault.why → IsOfBytes other.why → (fault ≡ other) × (new ≡ after)
    one_refusal begins front others bytes new after fault other h k certain sure =
        one_between begins front others bytes new after fault other h.between k.between h.before k.before
        (record { goes = h.goes; frame = h.frame; reason = h.reason; certain = certain })
        (record { goes = k.goes; frame = k.frame; reason = k.reason; certain = sure })

  -- ---- every input

  packet_reason : (front : List Packet) (packet : Packet) (reason : Why) → judge front packet ≡ Refused reason → IsOfPacket reason
      → IsReason (judge front packet) (brings front packet) reason × IsOfBytes reason
  packet_reason front packet (why.Line fault) is h = absurd h
  packet_reason front packet why.Ended is h = absurd h
  packet_reason front packet why.Memory is h = absurd h
  packet_reason front packet reason is h = (is, tt)

  no_packet_read : (fault : PacketFault) (mid : List ℕ) → NoPacket fault mid → (new : List ℕ) × Reads (known_bytes mid new) (Err fault) × IsOfBytes (why.Line fault)
  no_packet_read packet_fault.Truncated mid none = ([], (none, refl), tt)
  no_packet_read packet_fault.Io mid none = absurd none
  no_packet_read packet_fault.Failed mid none = absurd none
  no_packet_read packet_fault.Memory mid none = absurd none
  no_packet_read fault mid none = (drop digit_count mid, (none, refl), tt)

  module _ (four : HasFourBytes) (every_front : EveryFront) (endings : HasEndings judge) (of_packets : RefusesPackets judge) (bytes : List ℕ) where
    Found : Type 0
    Found = BeginsWithMessage judge bytes ⊎ IsRefused judge brings bytes

    refused_after : (front : List Packet) (mid new : List ℕ) (reason : Why) → IsOpen judge front
        → ReadsPackets (known_bytes bytes mid) front → IsReasonAfter judge brings front (known_bytes mid new) reason → IsOfBytes reason
        → Found
    unfolding Found
    refused_after front mid new reason opened read h certain = inr (record {
      front = front;
      rest = new;
      fault = record { frame = length front; why = reason };
      refused = record {
        between = Some mid;
        goes = opened;
        unfinished = OpenIsUnfinished-by_endings judge endings front opened;
        frame = refl;
        before = read;
        reason = h;
      };
      certain = certain;
    })

    whole_after : (front : List Packet) (packet : Packet) (mid new : List ℕ) → IsOpen judge front
        → ReadsPackets (known_bytes bytes mid) front → Reads (known_bytes mid new) (Ok (Some packet)) → judge front packet ≡ Whole
        → Found
    unfolding Found
    whole_after front packet mid new opened read next ends =
        let all = ReadsPackets-push (Some bytes) (Some mid) (Some new) front packet read next in
        inl (
          front ++ packet ∷ [],
          new,
          record { front = front; last = packet; parts = refl; goes = opened; ends = ends },
          record { front = all.0; parts = all.1; spelt = all.2 },
        )

    by_verdict : (verdict : Verdict) (front : List Packet) (packet : Packet) (mid new : List ℕ) → judge front packet ≡ verdict → IsOpen judge front
        → ReadsPackets (known_bytes bytes mid) front → Reads (known_bytes mid new) (Ok (Some packet))
        → (IsOpen judge (front ++ packet ∷ []) → ReadsPackets (known_bytes bytes new) (front ++ packet ∷ []) → Found) → Found
    by_verdict Open front packet mid new is opened read next more =
        more (IsOpen-push opened is) (ReadsPackets-push (Some bytes) (Some mid) (Some new) front packet read next)
    by_verdict Whole front packet mid new is opened read next more = whole_after front packet mid new opened read next is
    by_verdict (Refused reason) front packet mid new is opened read next more =
        let h = packet_reason front packet reason is (subst IsForPacket is (of_packets front packet)) in
        refused_after front mid new reason opened read (reason_after judge brings front (known_bytes mid new) packet reason next h.0) h.1

    found_within : (steps : ℕ) (front : List Packet) (mid : List ℕ) → length mid < steps → IsOpen judge front → ReadsPackets (known_bytes bytes mid) front → Found
    found_within zero front mid short opened read = absurd (omega (arith, short))
    found_within (suc steps) front mid short opened read =
        elim (every_front mid) [
          | inl empty ↦ refused_after front mid [] why.Ended opened read (empty, refl) tt
          | inr (inl (line, spelling, rest, parts, spelt)) ↦
              by_verdict (judge front line) front line mid rest refl opened read (spelling, parts, spelt)
              (λ goes more. found_within steps (front ++ line ∷ []) rest
              (omega (arith, short, four line spelling spelt, ap length parts, length-append spelling rest)) goes more)
          | inr (inr (fault, none)) ↦
              (let h = no_packet_read fault mid none in refused_after front mid h.0 (why.Line fault) opened read h.1 h.2)
        ]

    pub every_input : BeginsWithMessage judge bytes ⊎ IsRefused judge brings bytes
    unfolding Found
    every_input = found_within (suc (length bytes)) [] bytes (omega arith) (IsOpen-nil judge) (ReadsPackets-nil (Some bytes))

pub LawsOfBytes-always : OneBegins → OneReading → RefusedIsNoPacket → HasFourBytes → OneOutcome → EveryFront → (judge : Judge) → LawsOfBytes judge
LawsOfBytes-always begins one no_packet four law every_front judge = record {
  front = reads_front judge;
  no_other = reads_no_other judge begins;
  refused = refused_is_no_message judge begins one no_packet four;
  ended = ended_is_no_message judge four;
  one_refusal = λ brings. one_refusal judge brings law one no_packet four begins;
  every = λ endings of_packets brings bytes. every_input judge brings four every_front endings of_packets bytes;
  prefix_free = spellings_prefix_free judge begins;
}
