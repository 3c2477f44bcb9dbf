-- The packets that a connection receives, as the packets that a call reads from its source.
use Rattle.std.proofs.Common.{◌≡◌, ◌≢◌, ◌⊎◌, ℕ, ◌+◌, ◌-◌, ◌<◌, ◌≤◌, Bool, true, false, List, [], ◌∷◌, ◌++◌, length, take, drop, Option, Some, None, Result, Ok, Err, inl, inr, refl, sym, ap, ◌∙◌, subst, arith, append-nil, append_assoc, length-append}
use Rattle.std.proofs.lemmas.List.{take-append-le}
use Rattle.std.specs.Io.KnownBytes.{Consumes, IsAtEnd}
use Rattle.gpkt.specs.Change.{Change}
use Rattle.gpkt.specs.Packets.{Bytes, Packet, Spells, SpellsAll, digit_count, max_packet, number_of, reserved_len}
use Rattle.gpkt.specs.PacketReading.{AnnouncesAtFront, Gives, IsPartialPacket, NoPacket, Reads, ReadsPackets}
use Rattle.gpkt.specs.declared.fault.PacketFault.{PacketFault}
use Rattle.gpkt.specs.declared.fault.PacketFault.TheVariants as packet
use Rattle.gpkt.proofs.Readings.{spellings_split_lem}
use Rattle.ggrammar.specs.Grammar.{HasEndings, Judge, LawsOf, IsOpen}
use Rattle.ggrammar.specs.MessageReading.{IsReadFailure, IsReason, IsReasonAfter, ReadsRefused}
use Rattle.ggrammar.specs.declared.fault.Why.{Why}
use Rattle.ggrammar.specs.declared.fault.Why.TheVariants as why
use Rattle.ggrammar.specs.declared.fault.MessageFault.{MessageFault}
use Rattle.gtalk.specs.Connections.{Spelt}
use Rattle.gtalk.specs.Partial.{IsStopped, IsWithinPacket, LeavesSource}
use Rattle.gtalk.specs.declared.conversation.Stop.{Stop}
use Rattle.gtalk.specs.declared.conversation.Stop.TheVariants as stop
use Rattle.gdialogue.specs.Dialogues.{IsRefused, reason_of}
use Rattle.gdialogue.specs.Dialogues as dialogue
use Rattle.gdialogue.specs.Running.{Leaves}

-- the unread bytes of a source at a moment at which these bytes were still to be received
abbrev pub unread_of : Option Bytes → Bytes → Option Bytes
unread_of None bytes = None
unread_of (Some rest) bytes = Some (bytes ++ rest)

-- the source consumes the bytes of the packets, and the other received bytes follow
pub reads_front : (first last : Option Bytes) (more front back : Bytes) (lines : List Packet) → Consumes first last more → more ≡ front ++ back
    → SpellsAll lines front → ReadsPackets (record { old = first; new = unread_of last back }) lines
reads_front None last more front back lines read parts spelt = tt
reads_front (Some all) None more front back lines read parts spelt = absurd read
reads_front (Some all) (Some rest) more front back lines read parts spelt =
    (front, read ∙ ap (λ b. b ++ rest) parts ∙ append_assoc front back rest, spelt)

-- the unread bytes begin with the bytes that are still to be received
pub consumes_rest : (last : Option Bytes) (back : Bytes) → Consumes (unread_of last back) last back
consumes_rest None back = tt
consumes_rest (Some rest) back = refl

unread_nothing : (last : Option Bytes) → unread_of last [] ≡ last
unread_nothing None = refl
unread_nothing (Some rest) = refl

-- if no further byte was received, exactly the packets were read
pub reads_heard : (read : Change) (more partial : Bytes) (heard : List Packet) → Consumes read.old read.new more → Spelt heard partial more → partial ≡ []
    → ReadsPackets read heard
reads_heard read more partial heard consumed h none =
    subst (λ (last : Option Bytes). ReadsPackets (record { old = read.old; new = last }) heard) (ap (unread_of read.new) none ∙ unread_nothing read.new)
    (reads_front read.old read.new more h.front partial heard consumed h.parts h.spells)

-- the packets of two lists, one after the other
pub reads_parts : (read : Change) (more partial : Bytes) (before lines : List Packet) → Consumes read.old read.new more → Spelt (before ++ lines) partial more
    → (between : Option Bytes) × (rest : Bytes) × ReadsPackets (record { old = read.old; new = between }) before
    × Consumes between read.new rest × Spelt lines partial rest
reads_parts read more partial before lines consumed h =
    let (front, back, parts, first, second) = spellings_split_lem before lines h.front h.spells in
    let all = h.parts ∙ ap (λ (b : Bytes). b ++ partial) parts ∙ append_assoc front back partial in (
      unread_of read.new (back ++ partial),
      back ++ partial,
      reads_front read.old read.new more front (back ++ partial) before consumed all first,
      consumes_rest read.new (back ++ partial),
      record { front = back; parts = refl; spells = second },
    )

-- ---- a refused packet

spells_one : (packet : Packet) (bytes : Bytes) → SpellsAll (packet ∷ []) bytes → Spells packet bytes
spells_one packet bytes (front, rest, parts, spelt, none) =
    subst (Spells packet) (sym (parts ∙ ap (λ (b : Bytes). front ++ b) none ∙ append-nil front)) spelt

-- the source consumes exactly one packet
reads_one : (first last : Option Bytes) (more : Bytes) (packet : Packet) → Consumes first last more → Spells packet more
    → Reads (record { old = first; new = last }) (Ok (Some packet))
reads_one None last more packet read spelt = tt
reads_one (Some all) None more packet read spelt = absurd read
reads_one (Some all) (Some rest) more packet read spelt = (more, read, spelt)

-- a reason to reject a packet is a reason to reject a message at this packet
reason_after : (judge : Judge) (brings : List Packet → Packet → Bool) (front : List Packet) (packet : Packet) (change : Change) (why : Why)
    → Reads change (Ok (Some packet)) → IsReason (judge front packet) (brings front packet) why
    → IsReasonAfter judge brings front change why
reason_after judge brings front packet change (why.Line fault) read is = absurd is
reason_after judge brings front packet change why.Ended read is = absurd is
reason_after judge brings front packet change other read is = (packet, read, is)

-- a rejected packet is no failure of the source
no_failure : (judge : Judge) (brings : List Packet → Packet → Bool) (front : List Packet) (packet : Packet) (why : Why) (down : Bool)
    → IsReason (judge front packet) (brings front packet) why → down ≡ false → IsReadFailure false down why
no_failure judge brings front packet (why.Line fault) down is up = absurd is
no_failure judge brings front packet why.Ended down is up = absurd is
no_failure judge brings front packet other down is up = (refl, up)

-- ---- bytes that are not a packet

one_number : (bytes : Bytes) (a b : ℕ) → AnnouncesAtFront bytes a → AnnouncesAtFront bytes b → a ≡ b
one_number bytes a b p q = let same : Some a ≡ Some b = sym p.1 ∙ q.1 in cc same

four_none : (bytes : Bytes) → IsWithinPacket bytes → digit_count ≤ length bytes → number_of (take digit_count bytes) ≡ None → length bytes ≡ digit_count
four_none bytes within long none =
    elim within as (λ _. length bytes ≡ digit_count) [
      | inl h ↦ omega (arith, h, long)
      | inr h ↦ let some = h.1.1 in absurd (cc (none, some))
    ]

four_few : (bytes : Bytes) (n : ℕ) → IsWithinPacket bytes → AnnouncesAtFront bytes n → n ≤ digit_count → length bytes ≡ digit_count
four_few bytes n within announced few =
    let long = announced.0 in
    elim within as (λ _. length bytes ≡ digit_count) [
      | inl h ↦ omega (arith, h, long)
      | inr h ↦ let same = one_number bytes n h.0 announced h.1 in let most = h.2 in omega (arith, same, most, long, few)
    ]

four_many : (bytes : Bytes) (n : ℕ) → IsWithinPacket bytes → AnnouncesAtFront bytes n → max_packet < n → length bytes ≡ digit_count
four_many bytes n within announced many =
    let long = announced.0 in
    elim within as (λ _. length bytes ≡ digit_count) [
      | inl h ↦ omega (arith, h, long)
      | inr h ↦ let same = one_number bytes n h.0 announced h.1 in let fits = h.3 in absurd (omega (arith, same, fits, many))
    ]

dropped : (bytes rest : Bytes) → length bytes ≡ digit_count → rest ≡ drop digit_count (bytes ++ rest)
dropped [] rest is = absurd (omega (arith, is))
dropped (a ∷ []) rest is = absurd (omega (arith, is))
dropped (a ∷ b ∷ []) rest is = absurd (omega (arith, is))
dropped (a ∷ b ∷ c ∷ []) rest is = absurd (omega (arith, is))
dropped (a ∷ b ∷ c ∷ d ∷ []) rest is = refl
dropped (a ∷ b ∷ c ∷ d ∷ e ∷ more) rest is = absurd (omega (arith, is))

longer : (bytes rest : Bytes) → digit_count ≤ length bytes → digit_count ≤ length (bytes ++ rest)
longer bytes rest long = omega (arith, long, length-append bytes rest)

announces_more : (bytes rest : Bytes) (n : ℕ) → AnnouncesAtFront bytes n → AnnouncesAtFront (bytes ++ rest) n
announces_more bytes rest n (long, number) =
    (longer bytes rest long, ap number_of (take-append-le digit_count bytes rest long) ∙ number)

-- the received bytes of the refused packet, and the bytes that follow them
gives_refused : (fault : PacketFault) (partial rest : Bytes) → IsStopped (Some (stop.Refused fault)) partial → IsWithinPacket partial → fault ≢ packet.Memory
    → (fault ≡ packet.Truncated → rest ≡ []) → Gives (partial ++ rest) rest (Err fault)
gives_refused packet.BadDigits partial rest is within some end =
    ((longer partial rest is.0, ap number_of (take-append-le digit_count partial rest is.0) ∙ is.1), dropped partial rest (four_none partial within is.0 is.1))
gives_refused packet.Reserved partial rest is within some end =
    (announces_more partial rest reserved_len is, dropped partial rest (four_few partial reserved_len within is (omega arith)))
gives_refused packet.TooLong partial rest is within some end =
    ((is.0, announces_more partial rest is.0 is.1, is.2), dropped partial rest (four_many partial is.0 within is.1 is.2))
gives_refused packet.Truncated partial rest is within some end =
    let none = end refl in
    (subst (NoPacket packet.Truncated) (sym (ap (λ (b : Bytes). partial ++ b) none ∙ append-nil partial)) is, none)
gives_refused packet.Io partial rest is within some end = absurd is
gives_refused packet.Failed partial rest is within some end = absurd is
gives_refused packet.Memory partial rest is within some end = absurd (some refl)

reads_refused : (first last : Option Bytes) (fault : PacketFault) (partial : Bytes) → Consumes first last partial
    → IsStopped (Some (stop.Refused fault)) partial → IsWithinPacket partial → fault ≢ packet.Memory
    → (fault ≡ packet.Truncated → IsAtEnd last) → Reads (record { old = first; new = last }) (Err fault)
reads_refused None last fault partial read is within some end = tt
reads_refused (Some all) None fault partial read is within some end = absurd read
reads_refused (Some all) (Some rest) fault partial read is within some end =
    subst (λ (b : Bytes). Gives b rest (Err fault)) (sym read) (gives_refused fault partial rest is within some end)

reads_end : (first last : Option Bytes) (partial : Bytes) → Consumes first last partial → partial ≡ [] → IsAtEnd last
    → Reads (record { old = first; new = last }) (Ok None)
reads_end None last partial read none end = tt
reads_end (Some all) None partial read none end = absurd read
reads_end (Some all) (Some rest) partial read none end = (read ∙ ap (λ (b : Bytes). b ++ rest) none ∙ end, end)

reads_failure : (first last : Option Bytes) (partial : Bytes) → Consumes first last partial → IsPartialPacket partial
    → Reads (record { old = first; new = last }) (Err packet.Io)
reads_failure None last partial read part = tt
reads_failure (Some all) None partial read part = absurd read
reads_failure (Some all) (Some rest) partial read part = (partial, read, part)

at_end : (fault : PacketFault) (last : Option Bytes) (down : Bool) → LeavesSource (Some (stop.Refused fault)) last down → fault ≡ packet.Truncated → IsAtEnd last
at_end fault last down leaves is =
    let l : LeavesSource (Some (stop.Refused packet.Truncated)) last down = subst (λ (f : PacketFault). LeavesSource (Some (stop.Refused f)) last down) is leaves in l.0

refused_up : (fault : PacketFault) (last : Option Bytes) (down : Bool) → LeavesSource (Some (stop.Refused fault)) last down → down ≡ false
refused_up packet.BadDigits last down leaves = leaves
refused_up packet.Reserved last down leaves = leaves
refused_up packet.TooLong last down leaves = leaves
refused_up packet.Truncated last down leaves = leaves.1
refused_up packet.Io last down leaves = leaves
refused_up packet.Failed last down leaves = leaves
refused_up packet.Memory last down leaves = leaves

refused_failure : (fault : PacketFault) (partial : Bytes) (down : Bool) → IsStopped (Some (stop.Refused fault)) partial → fault ≢ packet.Memory → down ≡ false
    → IsReadFailure false down (why.Line fault)
refused_failure packet.BadDigits partial down is some up = (refl, up)
refused_failure packet.Reserved partial down is some up = (refl, up)
refused_failure packet.TooLong partial down is some up = (refl, up)
refused_failure packet.Truncated partial down is some up = (refl, up)
refused_failure packet.Io partial down is some up = absurd is
refused_failure packet.Failed partial down is some up = absurd is
refused_failure packet.Memory partial down is some up = absurd (some refl)

-- ---- a refused message

-- the message is refused after the packets `front`, and the fault reports a failed source exactly if the source failed
pub record RefusesAt (judge : Judge) (brings : List Packet → Packet → Bool) (change : Change) (down : Bool) (fault : MessageFault) : Type 0 where
  pub front : List Packet
  pub refused : ReadsRefused judge brings front change fault
  pub source : IsReadFailure false down fault.why

module _ (judge : Judge) (brings : List Packet → Packet → Bool) (laws : LawsOf judge) (endings : HasEndings judge) where
  -- the reason why no more packets arrive is the reason to refuse the message
  stopped_after : (front : List Packet) (why : Stop) (partial : Bytes) (first last : Option Bytes) (down : Bool) → Consumes first last partial
      → Leaves (Some why) partial last down
      → IsReasonAfter judge brings front (record { old = first; new = last }) (reason_of why) × IsReadFailure false down (reason_of why)
  stopped_after front stop.Ended partial first last down read l =
      (reads_end first last partial read l.rest l.source.0, (refl, l.source.1))
  stopped_after front (stop.Refused fault) partial first last down read l =
      let some : fault ≢ packet.Memory = λ is. l.memory (ap (λ f. Some (stop.Refused f)) is) in (
        reads_refused first last fault partial read l.rest l.within some (at_end fault last down l.source),
        refused_failure fault partial down l.rest some (refused_up fault last down l.source),
      )
  stopped_after front stop.Failed partial first last down read l =
      (reads_failure first last partial read l.rest, (refl, l.source))

  -- the packets of a refused message, and the bytes after them
  pub refuses_at : (read : Change) (more partial : Bytes) (lines : List Packet) (stopped : Option Stop) (fault : MessageFault) (down : Bool)
      → Consumes read.old read.new more → Spelt lines partial more → Leaves stopped partial read.new down
      → IsRefused judge brings lines stopped fault → RefusesAt judge brings read down fault
  refuses_at read more partial lines stopped fault down consumed spelt l (dialogue.IsRefused.packet front one reason goes is) =
      let p = reads_parts read more partial front (one ∷ []) consumed spelt in
      let none = l.clean refl in
      let tail = p.4.parts ∙ ap (λ (b : Bytes). p.4.front ++ b) none ∙ append-nil p.4.front in
      let spelt_one = subst (Spells one) (sym tail) (spells_one one p.4.front p.4.spells) in
      record {
        front = front;
        refused = record {
          between = p.0;
          goes = goes;
          unfinished = laws.beginnings endings front goes;
          frame = refl;
          before = p.2;
          reason = reason_after judge brings front one (record { old = p.0; new = read.new }) reason (reads_one p.0 read.new p.1 one p.3 spelt_one) is;
        };
        source = no_failure judge brings front one reason down is l.source;
      }
  refuses_at read more partial lines stopped fault down consumed spelt l (dialogue.IsRefused.stopped front why goes) =
      let before = reads_front read.old read.new more spelt.front partial front consumed spelt.parts spelt.spells in
      let s = stopped_after front why partial (unread_of read.new partial) read.new down (consumes_rest read.new partial) l in
      record {
        front = front;
        refused = record {
          between = unread_of read.new partial;
          goes = goes;
          unfinished = laws.beginnings endings front goes;
          frame = refl;
          before = before;
          reason = s.0;
        };
        source = s.1;
      }
