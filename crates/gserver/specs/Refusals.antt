-- The error packet that reports a refusal to the client (gitprotocol-pack(5), "error-line").
use Rattle.std.specs.Prelude.{ℕ, List, [], ◌++◌, codes}
use Rattle.gname.specs.Ids.{id_text}
use Rattle.gpkt.specs.Packets.{Bytes, Packet}
use Rattle.ganswer.specs.Faults.{serve_fault_row}
use Rattle.ganswer.specs.declared.fault.ServeFault.{ServeFault}
use Rattle.ganswer.specs.declared.fault.ServeFault.TheVariants as serve
use Rattle.gserver.specs.ErrTexts.{error_packets}

-- the maximum length of a refusal's text, in bytes
abbrev pub max_err_text : ℕ
max_err_text = 128

-- the last part of a refusal's text: for `NotOurs`, the id of the want that the server does not hold
abbrev pub detail_of : ServeFault → Bytes
detail_of (serve.NotOurs id) = codes " " ++ id_text id
detail_of _ = []

-- the text of a refusal
unfoldable pub err_text : ServeFault → Bytes
err_text fault = codes "upload-pack: " ++ (serve_fault_row fault).phrase ++ detail_of fault

-- the error packet of a refusal
unfoldable pub err_packets : ServeFault → List Packet
err_packets fault = error_packets (err_text fault)
