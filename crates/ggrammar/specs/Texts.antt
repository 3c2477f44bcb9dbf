-- The text packets of messages (gitprotocol-common(5), "pkt-line Format"). A text is written with a final line feed,
-- and read with or without it.
use Rattle.std.specs.Prelude.{◌≡◌, ℕ, Bool, List, [], ◌∷◌, ◌++◌, Option, Some, None, nat_eq}
use Rattle.std.specs.List.{filter_map}
use Rattle.gpkt.specs.Packets.{Bytes, Packet, Data, line_feed, text as stripped}

-- the byte is a space, which separates the words of a text
abbrev pub is_space : ℕ → Bool
is_space byte = nat_eq byte 32

-- the packet that is written for a text
abbrev pub text_packet : Bytes → Packet
text_packet text = Data (text ++ line_feed ∷ [])

abbrev pub text_in : Packet → Option Bytes
text_in (Data payload) = Some (stripped payload)
text_in _ = None

-- the texts of all data packets, in order
abbrev pub texts_of : List Packet → List Bytes
texts_of packets = filter_map text_in packets

-- the texts of two concatenated lists of packets are the texts of the first list followed by the texts of the second
-- list
abbrev pub TextsOfMore : Type 0
TextsOfMore = (packets more : List Packet) → texts_of (packets ++ more) ≡ texts_of packets ++ texts_of more

-- the packet of a text is read as that text
abbrev pub TextIsRead : Type 0
TextIsRead = (text : Bytes) → text_in (text_packet text) ≡ Some text
