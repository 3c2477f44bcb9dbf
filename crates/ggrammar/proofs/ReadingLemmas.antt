-- Consecutive reads of packets.
use Rattle.std.proofs.Common.{◌≡◌, ℕ, List, [], ◌∷◌, ◌++◌, length, Option, Some, None, Ok, Result, Bool, true, ◌+◌, refl, sym, subst, ap, ◌∙◌, append_assoc, append-nil}
use Rattle.gpkt.specs.Packets.{Packet, Spells, SpellsAll, packet_of}
use Rattle.gpkt.specs.PacketReading.{Reads, Reader, ReadsPackets, HasRead, read_of}
use Rattle.ggrammar.specs.Grammar.{Judge, IsOpen, HasEndings}
use Rattle.gpkt.specs.declared.packet.Packet.{Packet as LentPacket}
use Rattle.gpkt.specs.declared.fault.PacketFault.{PacketFault}
use Rattle.ggrammar.specs.MessageReading.{IsReason, IsReasonAfter, HasTaken, HasRefused, TakesPacket}
use Rattle.gpkt.specs.Change.{Change}
use Rattle.ggrammar.specs.declared.fault.Why.{Why}
use Rattle.ggrammar.specs.declared.fault.Why.TheVariants as why
use Rattle.ggrammar.specs.declared.message.Step.{Step}
use Rattle.ggrammar.specs.declared.message.Step.TheVariants as step
use Rattle.std.proofs.lemmas.List.{length_push}
use Rattle.std.proofs.lemmas.Bool.{false≢true}
use Rattle.ggrammar.proofs.GrammarLemmas.{IsOpen-nil, IsOpen-push, OpenIsUnfinished-by_endings}

pub SpellsAll-push : (lines : List Packet) (packet : Packet) (bytes more : List ℕ) → SpellsAll lines bytes → Spells packet more → SpellsAll (lines ++ packet ∷ []) (bytes ++ more)
SpellsAll-push [] packet bytes more e s = (more, [], ap (λ xs. xs ++ more) e ∙ sym (append-nil more), s, refl)
SpellsAll-push (line ∷ lines) packet bytes more h s =
    (h.0, h.1 ++ more, ap (λ xs. xs ++ more) h.2 ∙ append_assoc h.0 h.1 more, h.3, SpellsAll-push lines packet h.1 more h.4 s)

pub ReadsPackets-nil : (a : Option (List ℕ)) → ReadsPackets (record { old = a; new = a }) []
ReadsPackets-nil None = tt
ReadsPackets-nil (Some old) = ([], refl, refl)

pub ReadsPackets-push : (a b c : Option (List ℕ)) (lines : List Packet) (packet : Packet) → ReadsPackets (record { old = a; new = b }) lines
    → Reads (record { old = b; new = c }) (Ok (Some packet)) → ReadsPackets (record { old = a; new = c }) (lines ++ packet ∷ [])
ReadsPackets-push None b c lines packet p q = tt
ReadsPackets-push (Some x) None c lines packet p q = absurd p
ReadsPackets-push (Some x) (Some y) None lines packet p q = absurd q
ReadsPackets-push (Some x) (Some y) (Some z) lines packet p q =
    (p.0 ++ q.0, p.1 ∙ ap (λ xs. p.0 ++ xs) q.1 ∙ sym (append_assoc p.0 q.0 z), SpellsAll-push lines packet p.0 q.0 p.2 q.2)

-- the packet that a read returns, without addresses
pub read_some : (result : Result (Option LentPacket) PacketFault) (field : Option LentPacket) (line : LentPacket) → result ≡ Ok field → field ≡ Some line → read_of result ≡ Ok (Some (packet_of line))
read_some result field line e f = ap read_of (e ∙ ap (λ x. Ok x) f)

pub read_none : (result : Result (Option LentPacket) PacketFault) (field : Option LentPacket) → result ≡ Ok field → field ≡ None → read_of result ≡ Ok None
read_none result field e f = ap read_of (e ∙ ap (λ x. Ok x) f)

-- the reason to reject a packet that was read is a reason to reject the message
pub reason_after : (judge : Judge) (brings : List Packet → Packet → Bool) (front : List Packet) (bytes : Change) (packet : Packet) (why : Why)
    → Reads bytes (Ok (Some packet)) → IsReason (judge front packet) (brings front packet) why → IsReasonAfter judge brings front bytes why
reason_after judge brings front bytes packet (why.Line fault) read h = absurd h
reason_after judge brings front bytes packet why.Ended read h = absurd h
reason_after judge brings front bytes packet why read h = (packet, read, h)

-- a message that is being read: its packets so far
pub record IsGoing {M : Type 0} (judge : Judge) (holds : M → List Packet → Type 0) (old new : Option (List ℕ)) (message : M) (frame : ℕ) : Type 0 where
  pub lines : List Packet
  pub goes : IsOpen judge lines
  pub held : holds message lines
  pub count : frame ≡ length lines
  pub bytes : ReadsPackets (record { old = old; new = new }) lines

-- if the judge of a message is still its first judge, the message accepts or rejects a packet as the first judge does
pub takes_as : {M : Type 0} (holds left : M → List Packet → Type 0) (judge first : Judge)
    (brings at_first : List Packet → Packet → Bool) (old new : M) (packet : Packet) (result taken : Result Step Why)
    → judge ≡ first → brings ≡ at_first
    → ((front : List Packet) → IsOpen judge front → holds old front
    → TakesPacket judge brings holds left front packet new result) → result ≡ taken
    → (front : List Packet) → IsOpen first front → holds old front
    → TakesPacket first at_first holds left front packet new taken
takes_as holds left judge first brings at_first old new packet result taken same also takes is front goes held =
    subst (TakesPacket first at_first holds left front packet new) is
    (subst (λ b. TakesPacket first b holds left front packet new result) also
    (subst (λ j. TakesPacket j brings holds left front packet new result) same
    (takes front (subst (λ j. IsOpen j front) (sym same) goes) held)))

module _ {M : Type 0} (judge : Judge) (brings : List Packet → Packet → Bool) (holds left : M → List Packet → Type 0) where
  -- before its first packet, the message has no packets
  pub nothing_yet : (old : Option (List ℕ)) (message : M) → holds message [] → IsGoing judge holds old old message 0
  nothing_yet old message held = record { lines = []; goes = IsOpen-nil judge; held = held; count = refl; bytes = ReadsPackets-nil old }

  -- a message that is rejected after its packets so far
  pub refused_there : HasEndings judge → (old new last : Option (List ℕ)) (message after : M) (frame : ℕ) (reason : Why)
      → (going : IsGoing judge holds old new message frame) → left after going.lines
      → IsReasonAfter judge brings going.lines (record { old = new; new = last }) reason
      → HasRefused judge brings holds left (record { old = old; new = last }) after (record { frame = frame; why = reason })
  refused_there endings old new last message after frame reason going leaves h = record {
    front = going.lines;
    refused = record {
      between = new;
      goes = going.goes;
      unfinished = OpenIsUnfinished-by_endings judge endings going.lines going.goes;
      frame = going.count;
      before = going.bytes;
      reason = h;
    };
    leaves = leaves;
  }

  -- after a packet that does not end the message, the message is still being read
  pub goes_on : (old new last : Option (List ℕ)) (message after : M) (frame : ℕ) (packet : Packet) → (going : IsGoing judge holds old new message frame) → Reads (record { old = new; new = last }) (Ok (Some packet))
      → TakesPacket judge brings holds left going.lines packet after (Ok step.Open) → IsGoing judge holds old last after (frame + 1)
  goes_on old new last message after frame packet going read taken = record {
    lines = going.lines ++ packet ∷ [];
    goes = IsOpen-push going.goes taken.0;
    held = taken.1;
    count = ap (λ n. n + 1) going.count ∙ sym (length_push going.lines packet);
    bytes = ReadsPackets-push old new last going.lines packet going.bytes read;
  }

  -- after a packet that ends the message, the message is complete
  pub ends_there : (old new last : Option (List ℕ)) (message after : M) (frame : ℕ) (packet : Packet) → (going : IsGoing judge holds old new message frame) → Reads (record { old = new; new = last }) (Ok (Some packet))
      → TakesPacket judge brings holds left going.lines packet after (Ok step.Whole) → HasTaken judge brings holds left (record { old = old; new = last }) after
  ends_there old new last message after frame packet going read taken = record {
    lines = going.lines ++ packet ∷ [];
    read = record {
      whole = record { front = going.lines; last = packet; parts = refl; goes = going.goes; ends = taken.0 };
      bytes = ReadsPackets-push old new last going.lines packet going.bytes read;
    };
    held = taken.1;
  }

module _ {S : Type 0} (remaining : S → Option (List ℕ)) (is_down : S → Bool) (loans : S → List ℕ) where
  -- a reader that returns a packet had not failed before the call
  pub not_failed : (old new : Reader S) (packet : Packet) {P : Type 0}
      → HasRead remaining is_down loans old new (Ok (Some packet)) → old.failed ≡ true → P
  not_failed old new packet h failed = let well = h.after.0 in absurd (false≢true (sym well ∙ failed))

  -- a reader that returns a packet has not failed after the call either
  pub still_well : (old new : Reader S) (packet : Packet)
      → HasRead remaining is_down loans old new (Ok (Some packet)) → new.failed ≡ old.failed
  still_well old new packet h = h.after.1 ∙ sym h.after.0
