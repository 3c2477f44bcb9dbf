-- The result of reading a message at the start of the input, for every kind of message.
use Rattle.std.specs.Prelude.{◌≡◌, ◌⊎◌, Bool, List, [], ◌++◌, Some, None, Ok}
use Rattle.gpkt.specs.Packets.{Bytes, Packet, SpellsAll}
use Rattle.gpkt.specs.Change.{Change}
use Rattle.gpkt.specs.PacketReading.{Reads}
use Rattle.gpkt.specs.declared.fault.PacketFault.TheVariants.{Io, Failed}
use Rattle.ggrammar.specs.Grammar.{Judge, Verdict, Refused, IsWhole, HasEndings}
use Rattle.ggrammar.specs.MessageReading.{ReadsWhole, ReadsRefused}
use Rattle.ggrammar.specs.declared.fault.Why.{Why}
use Rattle.ggrammar.specs.declared.fault.Why.TheVariants.{Line, Memory, Ended}
use Rattle.ggrammar.specs.declared.fault.MessageFault.{MessageFault}

-- the known bytes of a source before and after a call
abbrev pub known_bytes : Bytes → Bytes → Change
known_bytes old new = record { old = Some old; new = Some new }

-- the part of `bytes` before `rest` encodes these packets
pub record IsFront (lines : List Packet) (bytes rest : Bytes) : Type 0 where
  pub front : Bytes
  pub parts : bytes ≡ front ++ rest
  pub spelt : SpellsAll lines front

-- the refusal is due to the content of the bytes: not to lack of memory, a failed source, or a reader that had failed
abbrev pub IsOfBytes : Why → Type 0
IsOfBytes (Line Io) = ⊥
IsOfBytes (Line Failed) = ⊥
IsOfBytes Memory = ⊥
IsOfBytes why = Unit {0}

-- a complete message at the start of the bytes is read
abbrev pub ReadsFront : Judge → Type 0
ReadsFront judge = (lines : List Packet) (bytes rest : Bytes) → IsWhole judge lines → IsFront lines bytes rest
    → ReadsWhole judge (known_bytes bytes rest) lines

-- only the message at the start of the bytes is read, and the bytes after it remain
abbrev pub ReadsNoOther : Judge → Type 0
ReadsNoOther judge = (lines others : List Packet) (bytes rest new : Bytes) → IsWhole judge lines
    → IsFront lines bytes rest → ReadsWhole judge (known_bytes bytes new) others → (others ≡ lines) × (new ≡ rest)

-- if the bytes are refused because of their content, the bytes begin with no complete message
abbrev pub RefusedIsNoMessage : Judge → Type 0
RefusedIsNoMessage judge =
    (brings : List Packet → Packet → Bool) (front lines : List Packet) (bytes new rest : Bytes) (fault : MessageFault)
    → ReadsRefused judge brings front (known_bytes bytes new) fault → IsOfBytes fault.why → IsFront lines bytes rest
    → ¬ IsWhole judge lines

-- if the packet reader reports the end of the input, the bytes begin with no complete message
abbrev pub EndedIsNoMessage : Judge → Type 0
EndedIsNoMessage judge = (lines : List Packet) (bytes new rest : Bytes) → Reads (known_bytes bytes new) (Ok None)
    → IsFront lines bytes rest → ¬ IsWhole judge lines

-- if bytes are refused because of their content, the bytes determine the fault and the remaining bytes
abbrev pub OneRefusal : Judge → Type 0
OneRefusal judge =
    (brings : List Packet → Packet → Bool) (front others : List Packet) (bytes new after : Bytes)
    (fault other : MessageFault) → ReadsRefused judge brings front (known_bytes bytes new) fault
    → ReadsRefused judge brings others (known_bytes bytes after) other → IsOfBytes fault.why → IsOfBytes other.why
    → (fault ≡ other) × (new ≡ after)

-- the reason to reject is the content of the packet, not a fault of the packet reader, the end of the input, or lack of
-- memory
abbrev pub IsOfPacket : Why → Type 0
IsOfPacket (Line fault) = ⊥
IsOfPacket Ended = ⊥
IsOfPacket Memory = ⊥
IsOfPacket why = Unit {0}

-- if the verdict rejects a packet, the reason is the content of the packet
abbrev pub IsForPacket : Verdict → Type 0
IsForPacket (Refused why) = IsOfPacket why
IsForPacket verdict = Unit {0}

-- a judge rejects packets only because of their content
abbrev pub RefusesPackets : Judge → Type 0
RefusesPackets judge = (front : List Packet) (packet : Packet) → IsForPacket (judge front packet)

-- the bytes begin with a complete message
abbrev pub BeginsWithMessage : Judge → Bytes → Type 0
BeginsWithMessage judge bytes =
    (lines : List Packet) × (rest : Bytes) × IsWhole judge lines × IsFront lines bytes rest

-- the bytes are refused because of their content
pub record IsRefused (judge : Judge) (brings : List Packet → Packet → Bool) (bytes : Bytes) : Type 0 where
  pub front : List Packet
  pub rest : Bytes
  pub fault : MessageFault
  pub refused : ReadsRefused judge brings front (known_bytes bytes rest) fault
  pub certain : IsOfBytes fault.why

-- every byte sequence begins with a message or is refused
abbrev pub BeginsOrIsRefused : Judge → (List Packet → Packet → Bool) → Type 0
BeginsOrIsRefused judge brings = (bytes : Bytes) → BeginsWithMessage judge bytes ⊎ IsRefused judge brings bytes

-- if open lists can be completed and packets are rejected only because of their content, every byte sequence begins
-- with a message or is refused
abbrev pub EveryInput : Judge → Type 0
EveryInput judge = HasEndings judge → RefusesPackets judge → (brings : List Packet → Packet → Bool)
    → BeginsOrIsRefused judge brings

-- no encoding of a message is a proper prefix of another
abbrev pub SpellingsPrefixFree : Judge → Type 0
SpellingsPrefixFree judge = (lines others : List Packet) (bytes rest : Bytes) → IsWhole judge lines
    → IsWhole judge others → SpellsAll lines bytes → SpellsAll others (bytes ++ rest)
    → (others ≡ lines) × (rest ≡ [])

-- the laws of every grammar over bytes
pub record LawsOfBytes (judge : Judge) : Type 0 where
  pub front : ReadsFront judge
  pub no_other : ReadsNoOther judge
  pub refused : RefusedIsNoMessage judge
  pub ended : EndedIsNoMessage judge
  pub one_refusal : OneRefusal judge
  pub every : EveryInput judge
  pub prefix_free : SpellingsPrefixFree judge
