-- Laws about the encoding, reading and writing of packets.
use Rattle.std.specs.Io.KnownBytes.{Appends}
use Rattle.std.specs.Prelude.{◌≡◌, ◌≢◌, ℕ, ◌≤◌, ◌⊎◌, All, Bool, List, [], ◌∷◌, ◌++◌, length, Option, Some, Result, Ok}
use Rattle.std.specs.Prelude.{Err, OnOk}
use Rattle.gpkt.specs.Change.{change_of}
use Rattle.gpkt.specs.Devices.{PassesAll}
use Rattle.gpkt.specs.PacketReading.{NoPacket, Gives, Reads, ReadsPackets}
use Rattle.gpkt.specs.PacketWriting.{Writer, HasWritten, HasPushed}
use Rattle.gpkt.specs.Packets.{Bytes, Packet, Spells, SpellsAll, canonical, canonical_all, payload_of, text}
use Rattle.gpkt.specs.Packets.{digit_count, line_feed, max_payload}
use Rattle.gpkt.specs.declared.fault.PacketFault.{PacketFault}
use Rattle.gpkt.specs.declared.fault.WriteFault.{WriteFault}
use Rattle.gpkt.specs.declared.fault.PacketFault.TheVariants as packet_fault
use Rattle.gpkt.specs.declared.fault.WriteFault.TheVariants as write_fault

-- the bytes begin with at most one encoded packet, and this packet ends at only one position
abbrev pub OneReading : Type 0
OneReading =
    (line other : Packet) (front next rest after : Bytes) → Spells line front → Spells other next
    → front ++ rest ≡ next ++ after
    → (line ≡ other) × (front ≡ next) × (rest ≡ after)

-- bytes that a reader rejects do not begin with an encoded packet
abbrev pub RefusedIsNoPacket : Type 0
RefusedIsNoPacket =
    (fault : PacketFault) (line : Packet) (bytes front rest : Bytes) → NoPacket fault bytes
    → front ++ rest ≡ bytes → ¬ Spells line front

-- a reader can reject given bytes with at most one fault
abbrev pub OneFault : Type 0
OneFault = (fault other : PacketFault) (bytes : Bytes) → NoPacket fault bytes → NoPacket other bytes → fault ≡ other

-- the result depends only on the bytes: the source did not fail, and the reader had not failed before the call
abbrev pub IsOfBytes : Result (Option Packet) PacketFault → Type 0
IsOfBytes result = (result ≢ Err packet_fault.Io) × (result ≢ Err packet_fault.Failed)

-- the input bytes determine the result of a read and the bytes that remain
abbrev pub OneOutcome : Type 0
OneOutcome =
    (old new after : Bytes) (result other : Result (Option Packet) PacketFault) → Gives old new result
    → Gives old after other → IsOfBytes result → IsOfBytes other
    → (result ≡ other) × (new ≡ after)

-- the bytes begin with an encoded packet
abbrev pub SpellsAtFront : Bytes → Type 0
SpellsAtFront bytes = (line : Packet) × (front : Bytes) × (rest : Bytes) × (bytes ≡ front ++ rest) × Spells line front

-- every byte sequence is empty, or begins with an encoded packet, or is rejected by a reader with a fault
abbrev pub EveryFront : Type 0
EveryFront =
    (bytes : Bytes) → (bytes ≡ []) ⊎ (SpellsAtFront bytes ⊎ ((fault : PacketFault) × NoPacket fault bytes))

-- an encoded packet has at least four bytes
abbrev pub HasFourBytes : Type 0
HasFourBytes = (line : Packet) (bytes : Bytes) → Spells line bytes → digit_count ≤ length bytes

-- the payload of the packet has at most `max_payload` bytes
abbrev pub Fits : Packet → Type 0
Fits line = length (payload_of line) ≤ max_payload

-- the canonical encoding of a packet is one of its encodings
abbrev pub CanonicalSpells : Type 0
CanonicalSpells = (line : Packet) → Fits line → Spells line (canonical line)

abbrev pub CanonicalSpellsAll : Type 0
CanonicalSpellsAll = (lines : List Packet) → All Fits lines → SpellsAll lines (canonical_all lines)

abbrev pub CanonicalJoins : Type 0
CanonicalJoins = (lines more : List Packet) → canonical_all (lines ++ more) ≡ canonical_all lines ++ canonical_all more

-- an encoding of one list of packets, followed by an encoding of another list, encodes the concatenated list
abbrev pub SpellingsJoin : Type 0
SpellingsJoin =
    (lines more : List Packet) (front rest : Bytes) → SpellsAll lines front → SpellsAll more rest
    → SpellsAll (lines ++ more) (front ++ rest)

abbrev pub SpellingsSplit : Type 0
SpellingsSplit = (lines more : List Packet) (bytes : Bytes) → SpellsAll (lines ++ more) bytes
    → (front : Bytes) × (rest : Bytes) × (bytes ≡ front ++ rest) × SpellsAll lines front × SpellsAll more rest

-- the first list is a prefix of the second, and `rest` is an encoding of the remaining packets followed by `after`
abbrev pub BeginsWith : List Packet → List Packet → Bytes → Bytes → Type 0
BeginsWith lines longer rest after =
    (more : List Packet) × (bytes : Bytes) × (longer ≡ lines ++ more) × SpellsAll more bytes
    × (rest ≡ bytes ++ after)

-- if the same bytes begin with the encodings of two lists of packets, one list is a prefix of the other
abbrev pub OneBegins : Type 0
OneBegins =
    (lines others : List Packet) (front next rest after : Bytes) → SpellsAll lines front
    → SpellsAll others next → front ++ rest ≡ next ++ after
    → BeginsWith lines others rest after ⊎ BeginsWith others lines after rest

-- the text of a payload omits its final line feed
abbrev pub TextOfLine : Type 0
TextOfLine = (words : Bytes) → text (words ++ line_feed ∷ []) ≡ words

-- the text of a payload is the payload, or the payload without its final line feed
abbrev pub TextOrLine : Type 0
TextOrLine = (payload : Bytes) → (payload ≡ text payload) ⊎ (payload ≡ text payload ++ line_feed ∷ [])

-- reading no bytes is a read of the empty list of packets
abbrev pub ReadsNone : Type 0
ReadsNone = (bytes : Option Bytes) → ReadsPackets (record { old = bytes; new = bytes }) []

-- a read of a list of packets followed by a read of one more packet is a read of the extended list
abbrev pub ReadsNext : Type 0
ReadsNext =
    (old mid new : Option Bytes) (lines : List Packet) (line : Packet)
    → ReadsPackets (record { old = old; new = mid }) lines → Reads (record { old = mid; new = new }) (Ok (Some line))
    → ReadsPackets (record { old = old; new = new }) (lines ++ line ∷ [])

-- a read of one list of packets followed by a read of another list is a read of their concatenation
abbrev pub ReadsJoin : Type 0
ReadsJoin =
    (old mid new : Option Bytes) (lines more : List Packet) → ReadsPackets (record { old = old; new = mid }) lines
    → ReadsPackets (record { old = mid; new = new }) more → ReadsPackets (record { old = old; new = new }) (lines ++ more)

module _
    {W : Type 0} (contents_of passed_on_of : W → Option Bytes) (is_down : W → Bool)
    (loans_of : W → List ℕ)
  where
    -- the outcome of one call to a writer that writes these bytes
    abbrev pub Writes : Writer W → Writer W → Result Unit WriteFault → Bytes → Type 0
    Writes old new result bytes = HasWritten contents_of passed_on_of is_down loans_of old new result bytes

    -- a successful write followed by another write has the outcome of a single write of all the bytes
    abbrev pub WritesJoin : Type 0
    WritesJoin =
        (old mid new : Writer W) (bytes more : Bytes) (result : Result Unit WriteFault) → Writes old mid (Ok tt) bytes
        → Writes mid new result more → result ≢ Err write_fault.Payload → Writes old new result (bytes ++ more)

    -- unless the fault is `Payload`, a failed write of `bytes` has the outcome of a failed write of `bytes` followed by
    -- `more`
    abbrev pub FailsOfMore : Type 0
    FailsOfMore =
        (old new : Writer W) (bytes more : Bytes) (fault : WriteFault) → Writes old new (Err fault) bytes
        → fault ≢ write_fault.Payload → Writes old new (Err fault) (bytes ++ more)

    -- a flush keeps all bytes written before it, and a successful flush flushes them all
    abbrev pub PushesWritten : Type 0
    PushesWritten =
        (old mid new : Writer W) (bytes : Bytes) (result : Result Unit WriteFault) → Writes old mid (Ok tt) bytes
        → HasPushed contents_of passed_on_of is_down loans_of mid new result
        → Appends (contents_of old.sink) (contents_of new.sink) bytes
        × OnOk result (PassesAll (contents_of new.sink) (change_of passed_on_of old.sink new.sink))
