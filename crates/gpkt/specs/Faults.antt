-- The tables of faults: each fault with its number, name and text.
use Rattle.std.specs.Prelude.{ℕ, codes}
use Rattle.gpkt.specs.Packets.{Bytes}
use Rattle.gpkt.specs.declared.device.Down.{Down}
use Rattle.gpkt.specs.declared.fault.BandFault.{BandFault}
use Rattle.gpkt.specs.declared.fault.PacketFault.{PacketFault}
use Rattle.gpkt.specs.declared.fault.WriteFault.{WriteFault}
use Rattle.gpkt.specs.declared.fault.PacketFault.TheVariants as line
use Rattle.gpkt.specs.declared.fault.WriteFault.TheVariants as write
use Rattle.gpkt.specs.declared.fault.BandFault.TheVariants as band

-- the number and the name of a fault
abbrev pub FaultRow : Type 0
FaultRow = ℕ × Bytes

-- the number and the name of each reason why a packet was not read
abbrev pub packet_fault_row : PacketFault → FaultRow
packet_fault_row line.BadDigits = (20, codes "BadDigits")
packet_fault_row line.Reserved = (21, codes "Reserved")
packet_fault_row line.TooLong = (22, codes "TooLong")
packet_fault_row line.Truncated = (23, codes "Truncated")
packet_fault_row line.Io = (24, codes "Io")
packet_fault_row line.Failed = (25, codes "Failed")
packet_fault_row line.Memory = (28, codes "Memory")

-- the number and the name of each reason why a packet was not written
abbrev pub write_fault_row : WriteFault → FaultRow
write_fault_row write.Failed = packet_fault_row line.Failed
write_fault_row write.Payload = (26, codes "Payload")
write_fault_row write.Io = (27, codes "Io")

-- the number and the name of each reason why a payload has no valid band
abbrev pub band_fault_row : BandFault → FaultRow
band_fault_row band.NoBand = (29, codes "NoBand")
band_fault_row band.BadBand = (30, codes "BadBand")

-- the text of each fault, as `Display` writes it
abbrev pub packet_fault_text : PacketFault → Bytes
packet_fault_text line.BadDigits = codes "bad packet length"
packet_fault_text line.Reserved = codes "reserved packet length"
packet_fault_text line.TooLong = codes "packet too long"
packet_fault_text line.Truncated = codes "unexpected end of input inside a packet"
packet_fault_text line.Io = codes "the source failed"
packet_fault_text line.Failed = codes "an earlier read had failed"
packet_fault_text line.Memory = codes "out of memory"

abbrev pub write_fault_text : WriteFault → Bytes
write_fault_text write.Failed = codes "an earlier write had failed"
write_fault_text write.Payload = codes "payload too long"
write_fault_text write.Io = codes "the sink failed"

abbrev pub band_fault_text : BandFault → Bytes
band_fault_text band.NoBand = codes "no band"
band_fault_text band.BadBand = codes "bad band"

abbrev pub down_text : Down → Bytes
down_text fault = codes "the device failed"
