-- The table of faults: the number, the name and the text of each fault.
use Rattle.gname.specs.Faults.{FaultRow}
use Rattle.gpkt.specs.Faults.{packet_fault_row, packet_fault_text, write_fault_row, write_fault_text}
use Rattle.gpkt.specs.declared.fault.PacketFault.TheVariants as line
use Rattle.gpkt.specs.declared.fault.WriteFault.TheVariants as write
use Rattle.gpkt.specs.Packets.{Bytes}
use Rattle.gsession.specs.Faults.{client_fault_row, client_fault_text}
use Rattle.gfetch.specs.declared.fault.FetchFault.{FetchFault}
use Rattle.gfetch.specs.declared.fault.FetchFault.TheVariants.{Client, NoBuffer, WriteFailed}

-- The number and the name of each fault of a conversation. A fault of the session or of a message has the row of its
-- own table.
abbrev pub fetch_fault_row : {A : Type 0} → FetchFault A → FaultRow
fetch_fault_row (Client fault) = client_fault_row fault
fetch_fault_row NoBuffer = packet_fault_row line.Memory
fetch_fault_row WriteFailed = write_fault_row write.Io

-- ---- the texts of the faults
abbrev pub fetch_fault_text : {A : Type 0} → FetchFault A → Bytes
fetch_fault_text (Client fault) = client_fault_text fault
fetch_fault_text NoBuffer = packet_fault_text line.Memory
fetch_fault_text WriteFailed = write_fault_text write.Io
