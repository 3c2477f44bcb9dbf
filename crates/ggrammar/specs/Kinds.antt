-- The laws of a kind of message, which concern its judge, the meaning of complete lists of packets, and writing.
use Rattle.std.specs.Prelude.{◌≡◌, ◌↔◌, All, Bool, List, ◌++◌, Option, Some, None, Result, Ok, Err, IfErr}
use Rattle.gpkt.specs.Packets.{Bytes, Packet, canonical_all}
use Rattle.gpkt.specs.Change.{Change}
use Rattle.gpkt.specs.PacketReading.{Reads}
use Rattle.gpkt.specs.Laws.{Fits}
use Rattle.ggrammar.specs.Grammar.{Judge, IsWhole}
use Rattle.ggrammar.specs.MessageReading.{ReadsWhole, ReadsRefused}
use Rattle.ggrammar.specs.MessageBytes.{known_bytes, IsFront, IsOfBytes}
use Rattle.ggrammar.specs.declared.fault.MessageFault.{MessageFault}

-- a relation between packets and a message, for example that the packets encode the message
abbrev pub Meaning : Type 0 → Type 1
Meaning M = List Packet → M → Type 0

module _ {M : Type 0} where
  -- a list of packets encodes at most one message
  abbrev pub OneMeaning : Meaning M → Type 0
  OneMeaning Says = (lines : List Packet) (one other : M) → Says lines one → Says lines other → one ≡ other

  -- a list of packets encodes a message exactly if the list is complete
  abbrev pub SaysWhole : Judge → Meaning M → Type 0
  SaysWhole judge Says = (lines : List Packet) → IsWhole judge lines ↔ ((message : M) × Says lines message)

  -- the packets that encode a message are exactly the packets that Git's manual allows for the message
  abbrev pub AsInManual : Meaning M → Meaning M → Type 0
  AsInManual Says IsMessage = (lines : List Packet) (message : M) → Says lines message ↔ IsMessage lines message

  -- the packets that are written for a well-formed message encode the message, and no packet is too long
  abbrev pub CanonicalSays : Meaning M → (M → Type 0) → Meaning M → Type 0
  CanonicalSays Says IsValue IsCanonical = (lines : List Packet) (message : M) → IsValue message
      → IsCanonical lines message → Says lines message × All Fits lines

  -- ---- the result of reading a message

  -- the packets of a complete message are read, and these packets encode `message`
  pub record ReadsMessage (judge : Judge) (Says : Meaning M) (change : Change) (message : M) : Type 0 where
    pub lines : List Packet
    pub read : ReadsWhole judge change lines
    pub says : Says lines message

  -- a message is read, or rejected after some packets
  abbrev pub ReadsOrRefuses : Judge → (List Packet → Packet → Bool) → Meaning M → Change → Result M MessageFault
      → Type 0
  ReadsOrRefuses judge brings Says change (Ok message) = ReadsMessage judge Says change message
  ReadsOrRefuses judge brings Says change (Err fault) =
      (front : List Packet) × ReadsRefused judge brings front change fault

  -- the part of the bytes before the rest consists of packets that encode the message
  abbrev pub SaysAtFront : Meaning M → Bytes → Bytes → M → Type 0
  SaysAtFront Says bytes rest message = (lines : List Packet) × IsFront lines bytes rest × Says lines message

  -- A message is read exactly if the input begins with packets that encode it. Nothing after these packets is read. The
  -- law does not apply if memory runs out, the source fails, or the reader had failed before.
  abbrev pub ReadsExactly : Judge → (List Packet → Packet → Bool) → Meaning M → Type 0
  ReadsExactly judge brings Says =
      (bytes new rest : Bytes) (result : Result M MessageFault) (message : M)
      → ReadsOrRefuses judge brings Says (known_bytes bytes new) result → IfErr result (λ fault. IsOfBytes fault.why)
      → ((result ≡ Ok message) × (new ≡ rest)) ↔ SaysAtFront Says bytes rest message

  -- A well-formed message that was written reads back, even if other bytes follow. The law does not apply if memory
  -- runs out, the source fails, or the reader had failed before.
  abbrev pub ReadsBack : Judge → (List Packet → Packet → Bool) → Meaning M → (M → Type 0) → Meaning M → Type 0
  ReadsBack judge brings Says IsValue IsCanonical =
      (lines : List Packet) (rest new : Bytes) (result : Result M MessageFault) (message : M) → IsValue message
      → IsCanonical lines message
      → ReadsOrRefuses judge brings Says (known_bytes (canonical_all lines ++ rest) new) result
      → IfErr result (λ fault. IsOfBytes fault.why) → (result ≡ Ok message) × (new ≡ rest)

  -- ---- reading a message from an input that may end before it

  -- the input ends before the message, or a message is read, or the input is rejected
  abbrev pub ReadsIfAny : Judge → (List Packet → Packet → Bool) → Meaning M → Change
      → Result (Option M) MessageFault → Type 0
  ReadsIfAny judge brings Says change (Ok (Some message)) = ReadsMessage judge Says change message
  ReadsIfAny judge brings Says change (Ok None) = Reads change (Ok None)
  ReadsIfAny judge brings Says change (Err fault) =
      (front : List Packet) × ReadsRefused judge brings front change fault

  -- A message is read exactly if the input begins with packets that encode it. Nothing after these packets is read. The
  -- law does not apply if memory runs out, the source fails, or the reader had failed before.
  abbrev pub ReadsExactlyIfAny : Judge → (List Packet → Packet → Bool) → Meaning M → Type 0
  ReadsExactlyIfAny judge brings Says =
      (bytes new rest : Bytes) (result : Result (Option M) MessageFault) (message : M)
      → ReadsIfAny judge brings Says (known_bytes bytes new) result → IfErr result (λ fault. IsOfBytes fault.why)
      → ((result ≡ Ok (Some message)) × (new ≡ rest)) ↔ SaysAtFront Says bytes rest message

  -- A well-formed message that was written reads back, even if other bytes follow. The law does not apply if memory
  -- runs out, the source fails, or the reader had failed before.
  abbrev pub ReadsBackIfAny : Judge → (List Packet → Packet → Bool) → Meaning M → (M → Type 0) → Meaning M → Type 0
  ReadsBackIfAny judge brings Says IsValue IsCanonical =
      (lines : List Packet) (rest new : Bytes) (result : Result (Option M) MessageFault) (message : M)
      → IsValue message → IsCanonical lines message
      → ReadsIfAny judge brings Says (known_bytes (canonical_all lines ++ rest) new) result
      → IfErr result (λ fault. IsOfBytes fault.why) → (result ≡ Ok (Some message)) × (new ≡ rest)
