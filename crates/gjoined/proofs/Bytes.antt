-- Messages at the front of the same bytes.
use Rattle.std.proofs.Common.{[], ◌∷◌, ◌++◌, ◌≡◌, ℕ, List, length, Option, Some, None, refl, ap, subst, arith}
use Rattle.std.proofs.Common.{length-append}
use Rattle.gpkt.specs.Laws.{HasFourBytes}
use Rattle.gpkt.specs.PacketReading.{ReadsPackets}
use Rattle.gpkt.specs.Packets.{Packet, SpellsAll}
use Rattle.ggrammar.specs.Grammar.{IsWhole, Judge}
use Rattle.ggrammar.specs.MessageBytes.{ReadsNoOther}

-- two messages at the front of the same bytes are equal, and the same bytes remain
pub one_front : {judge : Judge} → ReadsNoOther judge → (mine theirs : List Packet) (front next rest after : List ℕ)
    → IsWhole judge mine → IsWhole judge theirs → SpellsAll mine front → SpellsAll theirs next
    → front ++ rest ≡ next ++ after → (theirs ≡ mine) × (after ≡ rest)
one_front law mine theirs front next rest after whole also spelt spelt_too same =
    law mine theirs (front ++ rest) rest after whole (record { front = front; parts = refl; spelt = spelt })
    (record { whole = also; bytes = (next, same, spelt_too) })

-- no bytes encode only the empty list of packets
pub none_spelt : HasFourBytes → (lines : List Packet) (front rest : List ℕ) → SpellsAll lines front → front ++ rest ≡ []
    → lines ≡ []
none_spelt law [] front rest spelt none = refl
none_spelt law (line ∷ lines) front rest (first, later, parts, spelt, more) none =
    let long = law line first spelt in
    absurd (omega (arith, long, ap length parts, length-append first later, length-append front rest, ap length none))

-- the empty list of packets is no message
pub none_whole : {judge : Judge} {lines : List Packet} → IsWhole judge lines → lines ≡ [] → ⊥
none_whole whole none =
    omega (arith, ap length none, ap length whole.parts, length-append whole.front (whole.last ∷ []))

-- the packets are read from the front of known bytes
pub record IsReadFrom (bytes : List ℕ) (new : Option (List ℕ)) (lines : List Packet) : Type 0 where
  pub front : List ℕ
  pub left : List ℕ
  pub is : new ≡ Some left
  pub parts : bytes ≡ front ++ left
  pub spelt : SpellsAll lines front

read_known : (bytes : List ℕ) (new : Option (List ℕ)) (lines : List Packet)
    → ReadsPackets (record { old = Some bytes; new = new }) lines → IsReadFrom bytes new lines
read_known bytes None lines h = absurd h
read_known bytes (Some left) lines h = record { front = h.0; left = left; is = refl; parts = h.1; spelt = h.2 }

pub read_from : (old new : Option (List ℕ)) (bytes : List ℕ) (lines : List Packet) → old ≡ Some bytes
    → ReadsPackets (record { old = old; new = new }) lines → IsReadFrom bytes new lines
read_from old new bytes lines is h =
    read_known bytes new lines
    (subst (λ (o : Option (List ℕ)). ReadsPackets (record { old = o; new = new }) lines) is h)
