-- Definitions for private functions and proofs: bytes that are written to a sink without a flush.
use Rattle.std.specs.Prelude.{Result, Ok, Err}
use Rattle.std.specs.Io.KnownBytes.{Appends, Keeps}
use Rattle.gpkt.specs.Sending.{Output}
use Rattle.gpkt.specs.Streams.{SameSink, given}
use Rattle.gpkt.specs.declared.device.Down.{Down}
use Rattle.gpkt.specs.declared.device.Sink.{Ghosts as SinkGhosts}
use Rattle.gpkt.specs.Packets.{Bytes}
use Rattle.gcmd.specs.Outputs.{FailsAtWrite, IsSent}

-- the outcome of a call that tries to write these bytes, without a flush
abbrev pub IsPut : Output → Result (Unit {0}) Down → Bytes → Type 0
IsPut output (Ok done) bytes =
    Appends output.written.old output.written.new bytes × Keeps output.passed_on.old output.passed_on.new
IsPut output (Err down) bytes = FailsAtWrite output bytes

-- a call that tries to write these bytes to a sink, without a flush
abbrev pub Puts : {W : Type 0} → SinkGhosts W → W → W → Result (Unit {0}) Down → Bytes → Type 0
Puts sink old new result bytes = IsPut (given sink old new) result bytes × SameSink sink old new

-- a call that tries to write and flush these bytes
abbrev pub SendsTo : {W : Type 0} → SinkGhosts W → W → W → Result (Unit {0}) Down → Bytes → Type 0
SendsTo sink old new result bytes = IsSent (given sink old new) result bytes × SameSink sink old new
