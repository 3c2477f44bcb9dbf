-- Reading one packet: first its head, which is the kind of packet that the four digits announce, then its payload.
use Rattle.std.specs.Prelude.{◌≡◌, ℕ, ◌+◌, ◌<◌, ◌≤◌, Bool, true, false, [], length, take}
use Rattle.std.specs.Prelude.{Option, Some, None, option_map, Result, Ok, Err}
use Rattle.std.specs.Io.KnownBytes.{Consumes, IsAtEnd}
use Rattle.gpkt.specs.declared.head.Head.{Head}
use Rattle.gpkt.specs.declared.head.Head.TheVariants as head
use Rattle.gpkt.specs.declared.fault.PacketFault.{PacketFault}
use Rattle.gpkt.specs.declared.fault.PacketFault.TheVariants.{BadDigits, Reserved, TooLong, Truncated, Io, Failed, Memory}
use Rattle.gpkt.specs.Change.{Change}
use Rattle.gpkt.specs.Packets.{Packet, Data, Flush, Delim, ResponseEnd, digit_count, max_packet, max_payload, number_of}
use Rattle.gpkt.specs.Packets.{Bytes, flush_len, delim_len, response_end_len, reserved_len}

-- the number that the digits of this kind of packet encode
abbrev pub announced_of : Head → ℕ
announced_of (head.Data len) = len + digit_count
announced_of head.Flush = flush_len
announced_of head.Delim = delim_len
announced_of head.ResponseEnd = response_end_len

-- the number of payload bytes after the digits
abbrev pub payload_len : Head → ℕ
payload_len (head.Data len) = len
payload_len _ = 0

-- the packet whose payload is at the front of the buffer
abbrev pub packet_in : Bytes → Head → Packet
packet_in buffer (head.Data len) = Data (take len buffer)
packet_in buffer head.Flush = Flush
packet_in buffer head.Delim = Delim
packet_in buffer head.ResponseEnd = ResponseEnd

-- the result of a read whose payload is at the front of the buffer
abbrev pub read_in : Bytes → Result (Option Head) PacketFault → Result (Option Packet) PacketFault
read_in buffer (Ok found) = Ok (option_map (packet_in buffer) found)
read_in buffer (Err fault) = Err fault

-- the bytes are four digits that announce a packet of this kind
abbrev pub Announces : Bytes → Head → Type 0
Announces digits found = (number_of digits ≡ Some (announced_of found)) × (payload_len found ≤ max_payload)

-- the kind of packet that four digits announce, or the fault if the digits are invalid
abbrev pub Classifies : Bytes → Result Head PacketFault → Type 0
Classifies digits (Ok found) = Announces digits found
Classifies digits (Err BadDigits) = number_of digits ≡ None
Classifies digits (Err Reserved) = number_of digits ≡ Some reserved_len
Classifies digits (Err TooLong) = (announced : ℕ) × (number_of digits ≡ Some announced) × (max_packet < announced)
Classifies digits (Err _) = ⊥

-- fewer than `limit` bytes are consumed, if the input is known
abbrev pub ConsumesBelow : Change → ℕ → Type 0
ConsumesBelow bytes limit = (taken : Bytes) × Consumes bytes.old bytes.new taken × (length taken < limit)

-- if the input is known, fewer than `limit` bytes are consumed, and the input ends after them
abbrev pub EndsBelow : Change → ℕ → Type 0
EndsBelow bytes limit =
    (taken : Bytes) × Consumes bytes.old bytes.new taken × (length taken < limit) × IsAtEnd bytes.new

-- the call consumes four digits, and returns the kind of packet that they announce, or a fault if they are invalid
abbrev pub ConsumesDigits : Change → Result Head PacketFault → Type 0
ConsumesDigits bytes result =
    (digits : Bytes) × Consumes bytes.old bytes.new digits × (length digits ≡ digit_count) × Classifies digits result

-- the input ends inside the digits
abbrev pub EndsInDigits : Change → Type 0
EndsInDigits bytes =
    (taken : Bytes) × Consumes bytes.old bytes.new taken × (0 < length taken) × (length taken < digit_count)
    × IsAtEnd bytes.new

-- the outcome of reading the four digits, for each result
abbrev pub ReadsHead : Change → Result (Option Head) PacketFault → Type 0
ReadsHead bytes (Ok (Some found)) = ConsumesDigits bytes (Ok found)
ReadsHead bytes (Ok None) = Consumes bytes.old bytes.new [] × IsAtEnd bytes.new
ReadsHead bytes (Err Truncated) = EndsInDigits bytes
ReadsHead bytes (Err Io) = ConsumesBelow bytes digit_count
ReadsHead bytes (Err fault) = ConsumesDigits bytes (Err fault)

-- the outcome of reading the payload, for each result
abbrev pub ReadsPayload : Change → Result Unit PacketFault → Bytes → Type 0
ReadsPayload bytes (Ok done) payload = Consumes bytes.old bytes.new payload
ReadsPayload bytes (Err Truncated) payload = EndsBelow bytes (length payload)
ReadsPayload bytes (Err Io) payload = ConsumesBelow bytes (length payload)
ReadsPayload bytes (Err _) payload = ⊥

-- whether the result is a failure of the source
abbrev pub is_io : {A : Type 0} → Result A PacketFault → Bool
is_io (Ok value) = false
is_io (Err Io) = true
is_io (Err _) = false

-- the faults that can arise when the bytes of a packet are read
abbrev pub IsNewFault : PacketFault → Type 0
IsNewFault Failed = ⊥
IsNewFault Memory = ⊥
IsNewFault _ = Unit {0}
