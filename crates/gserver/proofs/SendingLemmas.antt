-- Writing packets and then flushing them, and the text of a refusal.
use Rattle.std.proofs.Common.{◌≡◌, ℕ, ◌≤◌, Bool, false, List, length, Option, Result}
use Rattle.std.proofs.Common.{Ok, Err, arith}
use Rattle.std.specs.Prelude.{IsErrAnd}
use Rattle.gpkt.specs.Sending.{output_of}
use Rattle.gpkt.specs.PacketWriting.{Writer, HasPushed}
use Rattle.gpkt.specs.Packets.{Packet}
use Rattle.gpkt.specs.declared.fault.WriteFault.{WriteFault}
use Rattle.gpkt.specs.declared.fault.PacketFault.{PacketFault}
use Rattle.gpkt.specs.Laws.{PushesWritten}
use Rattle.ggrammar.specs.Writing.{WritesPackets}
use Rattle.ggrammar.specs.Faults.{line_phrase, why_row}
use Rattle.ggrammar.specs.declared.fault.Why.{Why}
use Rattle.ganswer.specs.declared.fault.ServeFault.{ServeFault}
use Rattle.ganswer.specs.Faults.{serve_fault_row}
use Rattle.ggrammar.proofs.PassingLemmas.{push_fails, pushed_passes, write_fails}
use Rattle.gserver.specs.steps.Connections.{PassesPackets, max_phrase}
use Rattle.gpkt.specs.declared.fault.PacketFault.TheVariants as line
use Rattle.ggrammar.specs.declared.fault.Why.TheVariants as why
use Rattle.ganswer.specs.declared.fault.ServeFault.TheVariants as serve

module _ {W : Type 0} (contents passed_on : W → Option (List ℕ)) (is_down : W → Bool) (loans : W → List ℕ) where
  -- ---- a write followed by a flush

  -- a successful write followed by a flush satisfies `PassesPackets`
  pub passed_pushed : PushesWritten contents passed_on is_down loans → (a b c : Writer W) (packets : List Packet)
      (result : Result (Unit {0}) WriteFault) → WritesPackets contents passed_on is_down loans a b (Ok tt) packets
      → HasPushed contents passed_on is_down loans b c result
      → PassesPackets (output_of contents passed_on is_down a.sink c.sink) result packets
  passed_pushed pushes a b c packets (Ok done) wrote pushed =
      pushed_passes contents passed_on is_down loans pushes a b c packets done wrote pushed
  passed_pushed pushes a b c packets (Err fault) wrote pushed =
      push_fails contents passed_on is_down loans pushes a b c packets fault wrote pushed

  -- a failed write whose fault is returned satisfies `PassesPackets`
  pub passed_failed : (a b : Writer W) (packets : List Packet) (fault : WriteFault) (result : Result (Unit {0}) WriteFault)
      → a.failed ≡ false → WritesPackets contents passed_on is_down loans a b (Err fault) packets
      → IsErrAnd result (λ other. other ≡ fault) → PassesPackets (output_of contents passed_on is_down a.sink b.sink) result packets
  passed_failed a b packets fault (Ok done) ready wrote answered = absurd answered
  passed_failed a b packets fault (Err other) ready wrote answered =
      write_fails contents passed_on is_down loans a b packets fault ready wrote

-- ---- the length of a refusal's text

line_is_short : (fault : PacketFault) → length (line_phrase fault) ≤ max_phrase
line_is_short line.Memory = omega arith
line_is_short fault = omega arith

why_is_short : (cause : Why) → length (why_row cause).phrase ≤ max_phrase
why_is_short (why.Line fault) = line_is_short fault
why_is_short cause = omega arith

pub phrase_is_short : (fault : ServeFault) → length (serve_fault_row fault).phrase ≤ max_phrase
phrase_is_short (serve.Reader fault) = line_is_short fault
phrase_is_short (serve.Request cause) = why_is_short cause.why
phrase_is_short fault = omega arith
