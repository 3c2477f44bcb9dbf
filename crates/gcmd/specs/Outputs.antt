-- The bytes that a program writes to a sink and flushes, and the bytes that are written if the sink fails.
use Rattle.std.specs.Prelude.{◌≡◌, ◌⊎◌, true, Result, Ok, Err}
use Rattle.std.specs.Io.KnownBytes.{Appends, Keeps}
use Rattle.gpkt.specs.Devices.{KeepsPassed}
use Rattle.gpkt.specs.Sending.{Output, Sends, SendsSome}
use Rattle.gpkt.specs.declared.device.Down.{Down}
use Rattle.gpkt.specs.Packets.{Bytes}

-- the sink failed at a write: a prefix of these bytes is written, perhaps all of them, and nothing more is flushed
abbrev pub FailsAtWrite : Output → Bytes → Type 0
FailsAtWrite output bytes = SendsSome output bytes × Keeps output.passed_on.old output.passed_on.new

-- the sink failed at a flush: all of these bytes are written, and the bytes of earlier flushes remain flushed
pub record FailsAtFlush (output : Output) (bytes : Bytes) : Type 0 where
  pub written : Appends output.written.old output.written.new bytes
  pub passed_on : KeepsPassed output.passed_on
  pub down : output.is_down ≡ true

-- the sink failed before all of these bytes were written and flushed
abbrev pub BreaksOff : Output → Bytes → Type 0
BreaksOff output bytes = FailsAtWrite output bytes ⊎ FailsAtFlush output bytes

-- the outcome of a call that tries to write and flush these bytes
abbrev pub IsSent : Output → Result (Unit {0}) Down → Bytes → Type 0
IsSent output (Ok done) bytes = Sends output bytes
IsSent output (Err down) bytes = BreaksOff output bytes
