-- The table of faults of messages: the number, the name and the text for the peer of each fault. The stored part of a
-- peer's error text is also defined here.
use Rattle.std.specs.Prelude.{ℕ, ◌++◌, codes, take}
use Rattle.std.specs.Fmt.{decimal}
use Rattle.gname.specs.Faults.{out_of_memory_text}
use Rattle.gpkt.specs.Faults.{FaultRow, band_fault_row, packet_fault_row}
use Rattle.gpkt.specs.Packets.{Bytes, text}
use Rattle.gpkt.specs.declared.fault.PacketFault.{PacketFault}
use Rattle.gpkt.specs.declared.fault.PacketFault.TheVariants as line
use Rattle.ggrammar.specs.declared.fault.MessageFault.{MessageFault}
use Rattle.ggrammar.specs.declared.fault.Why.{Why}
use Rattle.ggrammar.specs.declared.fault.Why.TheVariants as why

-- the maximum length of the stored part of a peer's error text, in bytes
abbrev pub max_peer_text : ℕ
max_peer_text = 256

-- the stored part of a peer's error text: at most the first 256 bytes of the text without its final line feed
abbrev pub kept_text : Bytes → Bytes
kept_text said = take max_peer_text (text said)

-- the number and the name of a fault, and its text for the peer
pub record WhyRow : Type 0 where
  pub code : ℕ
  pub name : Bytes
  pub phrase : Bytes

abbrev pub row_of : FaultRow → Bytes → WhyRow
row_of row phrase = record { code = row.0; name = row.1; phrase = phrase }

-- the text that reports a fault of the packet reader to the peer
abbrev pub line_phrase : PacketFault → Bytes
line_phrase line.BadDigits = codes "bad packet line"
line_phrase line.Reserved = codes "bad packet line"
line_phrase line.TooLong = codes "bad packet line"
line_phrase line.Truncated = codes "unexpected end"
line_phrase line.Io = codes "read failed"
line_phrase line.Failed = codes "read failed"
line_phrase line.Memory = out_of_memory_text

-- the row of each reason to reject a message
abbrev pub why_row : Why → WhyRow
why_row (why.Line fault) = row_of (packet_fault_row fault) (line_phrase fault)
why_row (why.Band fault) = row_of (band_fault_row fault) (codes "refused")
why_row why.UnexpectedFrame = row_of (41, codes "UnexpectedFrame") (codes "unexpected packet")
why_row why.BadText = row_of (42, codes "BadText") (codes "bad line")
why_row why.UnknownCommand = row_of (43, codes "UnknownCommand") (codes "unknown command")
why_row why.UnknownCapability = row_of (44, codes "UnknownCapability") (codes "unknown capability")
why_row why.UnknownArgument = row_of (45, codes "UnknownArgument") (codes "unknown argument")
why_row why.BadId = row_of (46, codes "BadId") (codes "bad object id")
why_row why.BadName = row_of (47, codes "BadName") (codes "bad ref name")
why_row why.Limit = row_of (48, codes "Limit") (codes "limit exceeded")
why_row (why.RemoteErr said) = row_of (49, codes "RemoteErr") (codes "peer reported an error")
why_row (why.RemoteFatal said) = row_of (50, codes "RemoteFatal") (codes "refused")
why_row why.WrongSection = row_of (51, codes "WrongSection") (codes "refused")
why_row why.Format = row_of (52, codes "Format") (codes "object format mismatch")
why_row why.Memory = row_of (53, codes "Memory") out_of_memory_text
why_row why.Ended = row_of (54, codes "Ended") (codes "unexpected end")

-- the text of a fault of a message: the position of its packet, and the reason
abbrev pub message_fault_text : MessageFault → Bytes
message_fault_text fault = codes "packet " ++ decimal fault.frame ++ codes ": " ++ (why_row fault.why).phrase
