-- `lines`: the printed lines for the packets of the input (gitprotocol-common(5), "pkt-line Format").
use Rattle.std.specs.Prelude.{◌≡◌, ℕ, ◌⊎◌, ◌++◌, Bool, false, List, [], ◌∷◌, length, codes, Option, None, Result}
use Rattle.std.specs.Prelude.{Ok, Err}
use Rattle.std.specs.Fmt.{decimal}
use Rattle.hex.specs.Hex.{encode_lower}
use Rattle.gpkt.specs.Change.{Change}
use Rattle.gpkt.specs.Packets.{Bytes, Packet, Data, Flush, Delim, ResponseEnd}
use Rattle.gpkt.specs.PacketReading.{Reads, ReadsPackets}
use Rattle.gpkt.specs.declared.fault.PacketFault.{PacketFault}
use Rattle.gpkt.specs.declared.fault.PacketFault.TheVariants.{Memory}
use Rattle.gpkt.specs.Sending.{Input, Output, IsUnread, IsUnwritten, Sends}
use Rattle.ggrammar.specs.MessageReading.{IsReadFailure}
use Rattle.ggrammar.specs.declared.fault.Why.TheVariants as why
use Rattle.gcmd.specs.Outputs.{BreaksOff}
use Rattle.gcmd.specs.Programs.{ProgramOutcome}
use Rattle.gcmd.specs.declared.fault.ProgramFault.TheVariants as program

-- ---- output

-- a space and the hexadecimal digits of a payload; nothing for an empty payload
abbrev pub digits_part : Bytes → Bytes
digits_part [] = []
digits_part (byte ∷ bytes) = codes " " ++ encode_lower (byte ∷ bytes)

-- the line that shows a packet
abbrev pub shown_line : Packet → Bytes
shown_line (Data payload) = (codes "data " ++ decimal (length payload)) ++ (digits_part payload ++ codes "\n")
shown_line Flush = codes "flush\n"
shown_line Delim = codes "delim\n"
shown_line ResponseEnd = codes "response-end\n"

-- the lines of several packets, one after the other
abbrev pub shown_lines : List Packet → Bytes
shown_lines [] = []
shown_lines (line ∷ lines) = shown_line line ++ shown_lines lines

-- ---- input

-- the maximum number of packets that `lines` reads
abbrev pub max_lines : ℕ
max_lines = 4294967295

-- the reasons to stop after this many packets: the input ends, the maximum is reached, or the next packet is refused
abbrev pub StopsAfter : ℕ → Change → Result (Unit {0}) PacketFault → Type 0
StopsAfter count bytes (Ok done) = Reads bytes (Ok None) ⊎ ((count ≡ max_lines) × (bytes.new ≡ bytes.old))
StopsAfter count bytes (Err fault) = Reads bytes (Err fault)

-- after reading, the source has failed exactly if the fault reports a failed source
abbrev pub LeavesSource : Bool → Result (Unit {0}) PacketFault → Type 0
LeavesSource down (Ok done) = down ≡ false
LeavesSource down (Err fault) = IsReadFailure false down (why.Line fault)

-- exactly these packets are read, and reading stops for this reason
pub record ReadsEach (input : Input) (lines : List Packet) (ended : Result (Unit {0}) PacketFault) : Type 0 where
  pub between : Option Bytes
  pub before : ReadsPackets (record { old = input.read.old; new = between }) lines
  pub stops : StopsAfter (length lines) (record { old = between; new = input.read.new }) ended
  pub source : LeavesSource input.is_down ended

-- these packets are read, whether or not reading stops after them
abbrev pub ReadsSome : Input → List Packet → Type 0
ReadsSome input lines =
    ReadsPackets input.read lines ⊎ ((ended : Result (Unit {0}) PacketFault) × ReadsEach input lines ended)

-- ---- effects

-- the sink failed before all lines were written and flushed; a prefix of the lines is written, perhaps all of them
abbrev pub ShowsSome : Input → Output → Type 0
ShowsSome input output = (lines : List Packet) × ReadsSome input lines × BreaksOff output (shown_lines lines)

-- the packets before a refused packet are shown, or nothing is read because memory for the reader's buffer runs out
abbrev pub ShowsUntil : Input → Output → PacketFault → Type 0
ShowsUntil input output fault =
    ((lines : List Packet) × ReadsEach input lines (Err fault) × Sends output (shown_lines lines))
    ⊎ ((fault ≡ Memory) × IsUnread input × IsUnwritten output)

-- The effect of `lines`: all packets before the end or before a refused packet are shown. If the sink fails, a prefix
-- of the lines is written.
abbrev pub ShowsLines : {A : Type 0} → Input → Output → ProgramOutcome A → Type 0
ShowsLines input output (Ok done) =
    (lines : List Packet) × ReadsEach input lines (Ok tt) × Sends output (shown_lines lines)
ShowsLines input output (Err (program.Line fault)) = ShowsUntil input output fault
ShowsLines input output (Err program.WriteFailed) = ShowsSome input output
ShowsLines input output (Err _) = ⊥
