-- Definitions for private functions and proofs of `lines`: packets that are shown, with or without a flush.
use Rattle.std.specs.Prelude.{ℕ, List, Result, Ok, Err}
use Rattle.gpkt.specs.Packets.{Packet}
use Rattle.gpkt.specs.declared.device.Down.{Down}
use Rattle.gpkt.specs.declared.fault.PacketFault.{PacketFault}
use Rattle.gpkt.specs.Sending.{Input, Output, Sends}
use Rattle.gcmd.specs.Outputs.{FailsAtWrite}
use Rattle.gcmd.specs.steps.Outputs.{IsPut}
use Rattle.gcmd.specs.Lines.{shown_lines, ReadsEach, ReadsSome, ShowsSome}

-- ---- chunks

-- the maximum number of payload bytes whose digits are written at a time
abbrev pub chunk : ℕ
chunk = 512

-- ---- steps

-- the packets are shown, but not flushed
abbrev pub ShowsEach : Input → Output → Result (Result (Unit {0}) PacketFault) Down → Type 0
ShowsEach input output (Ok ended) =
    (lines : List Packet) × ReadsEach input lines ended × IsPut output (Ok tt) (shown_lines lines)
ShowsEach input output (Err down) =
    (lines : List Packet) × ReadsSome input lines × FailsAtWrite output (shown_lines lines)

-- the packets are shown and flushed
abbrev pub ShowsAndFlushes : Input → Output → Result (Result (Unit {0}) PacketFault) Down → Type 0
ShowsAndFlushes input output (Ok ended) =
    (lines : List Packet) × ReadsEach input lines ended × Sends output (shown_lines lines)
ShowsAndFlushes input output (Err down) = ShowsSome input output
