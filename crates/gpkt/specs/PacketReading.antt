-- The result of one call to a packet reader, and the bytes that the call consumes (gitprotocol-common(5), "pkt-line
-- Format").
use Rattle.std.specs.Prelude.{◌≡◌, ℕ, ◌<◌, ◌≤◌, ◌⊎◌, Bool, true, false, List, [], ◌++◌, length, take, drop, Option}
use Rattle.std.specs.Prelude.{Some, None, option_map, Result, Ok, Err}
use Rattle.gpkt.specs.Change.{Change, WhereKnown, change_of}
use Rattle.gpkt.specs.Packets.{Bytes, Packet, Spells, SpellsAll, digit_count, max_packet, number_of, packet_of}
use Rattle.gpkt.specs.Packets.{reserved_len}
use Rattle.gpkt.specs.declared.fault.PacketFault.{PacketFault}
use Rattle.gpkt.specs.declared.fault.PacketFault.TheVariants.{BadDigits, Reserved, TooLong, Truncated, Io, Failed, Memory}
use Rattle.gpkt.specs.declared.packet.Packet.{Packet as LentPacket}

-- a packet reader: its source, and whether one of its calls has failed
pub record Reader (S : Type 0) : Type 0 where
  pub source : S
  pub failed : Bool

-- the first four bytes are the hexadecimal digits of the number `announced`
abbrev pub AnnouncesAtFront : Bytes → ℕ → Type 0
AnnouncesAtFront bytes announced = (digit_count ≤ length bytes) × (number_of (take digit_count bytes) ≡ Some announced)

-- an incomplete packet: fewer than four bytes, or fewer bytes than the digits announce
abbrev pub IsPartialPacket : Bytes → Type 0
IsPartialPacket bytes =
    (length bytes < digit_count)
    ⊎ ((announced : ℕ) × AnnouncesAtFront bytes announced × (announced ≤ max_packet) × (length bytes < announced))

-- the fault is the reason why the bytes do not begin with an encoded packet
abbrev pub NoPacket : PacketFault → Bytes → Type 0
NoPacket BadDigits bytes = (digit_count ≤ length bytes) × (number_of (take digit_count bytes) ≡ None)
NoPacket Reserved bytes = AnnouncesAtFront bytes reserved_len
NoPacket TooLong bytes = (announced : ℕ) × AnnouncesAtFront bytes announced × (max_packet < announced)
NoPacket Truncated bytes = (0 < length bytes) × IsPartialPacket bytes
NoPacket Io bytes = ⊥
NoPacket Failed bytes = ⊥
NoPacket Memory bytes = ⊥

-- the result of a read that leaves `new` of the known input `old`
abbrev pub Gives : Bytes → Bytes → Result (Option Packet) PacketFault → Type 0
Gives old new (Ok (Some line)) = (front : Bytes) × (old ≡ front ++ new) × Spells line front
Gives old new (Ok None) = (old ≡ []) × (new ≡ [])
Gives old new (Err BadDigits) = NoPacket BadDigits old × (new ≡ drop digit_count old)
Gives old new (Err Reserved) = NoPacket Reserved old × (new ≡ drop digit_count old)
Gives old new (Err TooLong) = NoPacket TooLong old × (new ≡ drop digit_count old)
Gives old new (Err Truncated) = NoPacket Truncated old × (new ≡ [])
Gives old new (Err Io) = (front : Bytes) × (old ≡ front ++ new) × IsPartialPacket front
Gives old new (Err Failed) = new ≡ old
Gives old new (Err Memory) = ⊥

-- the result of a read, if the input is known
abbrev pub Reads : Change → Result (Option Packet) PacketFault → Type 0
Reads bytes result = WhereKnown bytes (λ old new. Gives old new result)

-- the consumed bytes encode these packets in sequence, if the input is known
abbrev pub ReadsPackets : Change → List Packet → Type 0
ReadsPackets bytes lines = WhereKnown bytes (λ old new. (front : Bytes) × (old ≡ front ++ new) × SpellsAll lines front)

-- the result of a read, with the contents of the borrowed payload but not its address
abbrev pub read_of : Result (Option LentPacket) PacketFault → Result (Option Packet) PacketFault
read_of (Ok line) = Ok (option_map packet_of line)
read_of (Err fault) = Err fault

-- the faults that a read can return: all faults except `Memory`
abbrev pub IsReadFault : PacketFault → Type 0
IsReadFault Memory = ⊥
IsReadFault _ = Unit {0}

module _ {S : Type 0} (remaining_of : S → Option Bytes) (is_down : S → Bool) (loans_of : S → List ℕ) where
  -- the reader had not failed before the call; the two booleans state whether the reader and its source have failed
  -- after the call
  abbrev pub SetsReader : Reader S → Reader S → Bool → Bool → Type 0
  SetsReader old new failed down = (old.failed ≡ false) × (new.failed ≡ failed) × (is_down new.source ≡ down)

  -- whether the reader and its source have failed, after a read with this result
  abbrev pub IsReaderAfter : Reader S → Reader S → Result (Option Packet) PacketFault → Type 0
  IsReaderAfter old new (Ok line) = SetsReader old new false false
  IsReaderAfter old new (Err BadDigits) = SetsReader old new true false
  IsReaderAfter old new (Err Reserved) = SetsReader old new true false
  IsReaderAfter old new (Err TooLong) = SetsReader old new true false
  IsReaderAfter old new (Err Truncated) = SetsReader old new true false
  IsReaderAfter old new (Err Io) = SetsReader old new true true
  IsReaderAfter old new (Err Failed) = (old.failed ≡ true) × (new ≡ old)
  IsReaderAfter old new (Err Memory) = ⊥

  -- the outcome of one call to a packet reader
  pub record HasRead (old new : Reader S) (result : Result (Option Packet) PacketFault) : Type 0 where
    pub bytes : Reads (change_of remaining_of old.source new.source) result
    pub after : IsReaderAfter old new result
    pub loans : loans_of new.source ≡ loans_of old.source
