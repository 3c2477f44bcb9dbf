-- The error packet of a server (gitprotocol-pack(5), "error-line").
use Rattle.std.specs.Prelude.{ℕ, List, [], ◌∷◌, ◌++◌, codes}
use Rattle.gpkt.specs.Packets.{Bytes, Packet}
use Rattle.ggrammar.specs.Texts.{text_packet}

-- the maximum number of bytes of the text in an error packet
abbrev pub max_text : ℕ
max_text = 512

-- the error packet with this text, as a list of packets
abbrev pub error_packets : Bytes → List Packet
error_packets text = text_packet (codes "ERR " ++ text) ∷ []
