-- Packets that are written, and then flushed by a push.
use Rattle.std.proofs.Common.{◌≡◌, ℕ, Bool, false, List, [], Option, Result, Ok, Err, refl, sym, ◌∙◌, append-nil}
use Rattle.std.specs.Prelude.{OnOk}
use Rattle.std.proofs.lemmas.Bool.{false≢true}
use Rattle.gpkt.specs.Devices.{KeepsPassed}
use Rattle.gpkt.specs.Laws.{PushesWritten}
use Rattle.gpkt.specs.PacketWriting.{Writer, HasPushed}
use Rattle.gpkt.specs.Packets.{Packet, canonical_all}
use Rattle.gpkt.specs.Sending.{Output, output_of, Passes, SendsSome}
use Rattle.gpkt.specs.declared.fault.WriteFault.{WriteFault}
use Rattle.gpkt.specs.declared.fault.WriteFault.TheVariants.{Failed, Payload, Io}
use Rattle.gpkt.proofs.SendingLemmas.{keeps_on, keeps_still}
use Rattle.ggrammar.specs.Writing.{WritesPackets}

-- a prefix of the encoded packets was written, the sink has failed, and bytes flushed before stay flushed
abbrev pub SendsPart : Output → List Packet → Type 0
SendsPart output packets = SendsSome output (canonical_all packets) × KeepsPassed output.passed_on

module _ {W : Type 0} (contents passed_on : W → Option (List ℕ)) (is_down : W → Bool) (loans : W → List ℕ) where
  abbrev Writes : Writer W → Writer W → Result (Unit {0}) WriteFault → List Packet → Type 0
  Writes old new result packets = WritesPackets contents passed_on is_down loans old new result packets

  abbrev Pushes : Writer W → Writer W → Result (Unit {0}) WriteFault → Type 0
  Pushes old new result = HasPushed contents passed_on is_down loans old new result

  -- after a successful write and a successful push, the written packets are flushed
  pub pushed_passes : PushesWritten contents passed_on is_down loans → (a b c : Writer W) (packets : List Packet)
      (done : Unit {0}) → Writes a b (Ok tt) packets → Pushes b c (Ok done)
      → Passes (output_of contents passed_on is_down a.sink c.sink) (canonical_all packets)
  pushed_passes pushes a b c packets done wrote pushed =
      let all = pushes a b c (canonical_all packets) (Ok done) wrote.written pushed in
      record { written = all.0; passed_on = λ known. all.1; up = pushed.outcome.0.2 }

  -- after a successful write and a failed push, bytes flushed before stay flushed, and the sink has failed
  pub push_fails : PushesWritten contents passed_on is_down loans → (a b c : Writer W) (packets : List Packet)
      (fault : WriteFault) → Writes a b (Ok tt) packets → Pushes b c (Err fault)
      → SendsPart (output_of contents passed_on is_down a.sink c.sink) packets
  push_fails pushes a b c packets Io wrote pushed = (
    record {
      front = canonical_all packets;
      rest = [];
      parts = sym (append-nil (canonical_all packets));
      written = (pushes a b c (canonical_all packets) (Err Io) wrote.written pushed).0;
      down = pushed.outcome.0.2;
    },
    keeps_on (passed_on a.sink) (passed_on b.sink) (passed_on c.sink) wrote.written.passed_on pushed.outcome.1,
  )
  push_fails pushes a b c packets Payload wrote pushed = absurd pushed.outcome
  push_fails pushes a b c packets Failed wrote pushed =
      absurd (false≢true (sym wrote.written.outcome.0.1 ∙ pushed.outcome.0))

  -- after a failed write, a prefix of the packets is written, and the sink has failed
  pub write_fails : (a b : Writer W) (packets : List Packet) (fault : WriteFault) → a.failed ≡ false
      → Writes a b (Err fault) packets → SendsPart (output_of contents passed_on is_down a.sink b.sink) packets
  write_fails a b packets Io ready wrote = (
    record {
      front = wrote.written.outcome.1.0;
      rest = wrote.written.outcome.1.1;
      parts = wrote.written.outcome.1.2;
      written = wrote.written.outcome.1.4;
      down = wrote.written.outcome.0.2;
    },
    keeps_still (passed_on a.sink) (passed_on b.sink) wrote.written.passed_on,
  )
  write_fails a b packets Payload ready wrote = absurd (wrote.fits refl)
  write_fails a b packets Failed ready wrote = absurd (false≢true (sym ready ∙ wrote.written.outcome.0))

  -- after a successful push, the writer has not failed
  pub push_goes_on : (b c : Writer W) (result : Result (Unit {0}) WriteFault) → Pushes b c result
      → OnOk result (c.failed ≡ false)
  push_goes_on b c (Ok done) pushed = pushed.outcome.0.1
  push_goes_on b c (Err fault) pushed = tt
