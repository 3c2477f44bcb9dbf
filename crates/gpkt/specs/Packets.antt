-- Packets and their encoding as bytes (gitprotocol-common(5), "pkt-line Format").
use Rattle.std.specs.Int.{w16, to_be_bytes}
use Rattle.std.specs.Io.BufRead.{strip_last}
use Rattle.std.specs.Prelude.{◌≡◌, ℕ, ◌+◌, ◌-◌, ◌*◌, ◌≤◌, List, [], ◌∷◌, ◌++◌, length, codes, Option, Some, None}
use Rattle.std.specs.Prelude.{Result, Ok, Err}
use Rattle.hex.specs.Hex.{decode_of, encode_lower}
use Rattle.hex.specs.declared.error.FromHexError.{FromHexError}
use Rattle.gpkt.specs.declared.packet.Packet.{Packet as LentPacket}
use Rattle.gpkt.specs.declared.packet.Packet.TheVariants as lent

-- a sequence of bytes, such as a payload, a text or a pack
abbrev pub Bytes : Type 0
Bytes = List ℕ

-- a data packet with its payload, or one of the three special packets, which have no payload
pub data Packet : Type 0 where
  Data : (payload : Bytes) → Packet
  Flush : Packet
  Delim : Packet
  ResponseEnd : Packet

-- the number of hexadecimal digits at the start of each packet
abbrev pub digit_count : ℕ
digit_count = 4

-- the maximum number of bytes of a packet, including its digits
abbrev pub max_packet : ℕ
max_packet = 65520

-- the maximum number of bytes of a payload
abbrev pub max_payload : ℕ
max_payload = max_packet - digit_count

-- the number that the digits of each special packet encode
abbrev pub flush_len : ℕ
flush_len = 0

abbrev pub delim_len : ℕ
delim_len = 1

abbrev pub response_end_len : ℕ
response_end_len = 2

-- the reserved number, which the digits of no packet encode
abbrev pub reserved_len : ℕ
reserved_len = 3

-- the number of different values of a byte
abbrev pub byte_values : ℕ
byte_values = 256

-- the byte of a line feed
abbrev pub line_feed : ℕ
line_feed = 10

-- the number that two bytes encode, the high byte first
abbrev pub number_in : Result Bytes FromHexError → Option ℕ
number_in (Ok (high ∷ low ∷ [])) = Some (high * byte_values + low)
number_in (Ok _) = None
number_in (Err e) = None

-- the number that four hexadecimal digits of either case encode
unfoldable pub number_of : Bytes → Option ℕ
number_of digits = number_in (decode_of digits)

-- the bytes encode the packet: four digits, and the payload that they announce
abbrev pub Spells : Packet → Bytes → Type 0
Spells (Data payload) bytes =
    (digits : Bytes) × (bytes ≡ digits ++ payload) × (number_of digits ≡ Some (length payload + digit_count))
    × (length payload ≤ max_payload)
Spells Flush bytes = number_of bytes ≡ Some flush_len
Spells Delim bytes = number_of bytes ≡ Some delim_len
Spells ResponseEnd bytes = number_of bytes ≡ Some response_end_len

-- the bytes encode the packets in sequence
abbrev pub SpellsAll : List Packet → Bytes → Type 0
SpellsAll [] bytes = bytes ≡ []
SpellsAll (line ∷ lines) bytes =
    (front : Bytes) × (rest : Bytes) × (bytes ≡ front ++ rest) × Spells line front × SpellsAll lines rest

-- the four hexadecimal digits of a number below 65,536, in lower case
unfoldable pub digits_of : ℕ → Bytes
digits_of n = encode_lower (to_be_bytes w16 n)

-- the encoding of a packet with lower-case digits
abbrev pub canonical : Packet → Bytes
canonical (Data payload) = digits_of (length payload + digit_count) ++ payload
canonical Flush = codes "0000"
canonical Delim = codes "0001"
canonical ResponseEnd = codes "0002"

-- the canonical encodings of the packets in sequence
abbrev pub canonical_all : List Packet → Bytes
canonical_all [] = []
canonical_all (line ∷ lines) = canonical line ++ canonical_all lines

-- the contents of a borrowed packet, without addresses
abbrev pub packet_of : LentPacket → Packet
packet_of (lent.Data payload) = Data payload.now
packet_of lent.Flush = Flush
packet_of lent.Delim = Delim
packet_of lent.ResponseEnd = ResponseEnd

-- the payload of the packet, which is empty for a special packet
abbrev pub payload_of : Packet → Bytes
payload_of (Data payload) = payload
payload_of Flush = []
payload_of Delim = []
payload_of ResponseEnd = []

-- the payload without its final line feed, if it has one
abbrev pub text : Bytes → Bytes
text payload = strip_last line_feed payload
