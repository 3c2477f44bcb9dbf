-- Definitions for filling a packet with the next bytes of a pack.
use Rattle.std.specs.Prelude.{◌≡◌, ◌<◌, ◌≤◌, ◌+◌, ℕ, List, [], ◌∷◌, ◌++◌, length, take, Option, Some, None}
use Rattle.gobject.specs.declared.fault.PackFault.{PackFault}
use Rattle.gparts.specs.Parts.{Gives}
use Rattle.gpkt.specs.Packets.{Bytes, Packet, canonical_all}
use Rattle.gfetchreply.specs.FetchReplies.{data_packet}
use Rattle.gserver.specs.PackSaying.{SaysPack}
use Rattle.gserver.specs.declared.filling.Piece.{Piece}
use Rattle.gserver.specs.declared.filling.Piece.TheVariants as piece

-- the next `count` bytes of a pack are written to the buffer after its first `from` bytes
pub record PutsPart (old : Gives) (most_old : ℕ) (new : Gives) (most_new : ℕ) (from count : ℕ)
    (before out : List ℕ) : Type 0 where
  pub part : List ℕ
  pub size : length part ≡ count
  pub fits : from + count ≤ length out
  pub put : take (from + count) out ≡ take from before ++ part
  pub more : (rest : List ℕ) (end : Option PackFault) → 0 < count → new rest end → old (part ++ rest) end
  pub few : 0 < count → count + most_new ≤ most_old
  pub whole : count ≡ 0 → old [] None

-- `count` bytes at the front of the buffer are the next bytes of the pack
pub record IsFilled (old : Gives) (most_old : ℕ) (new : Gives) (most_new : ℕ) (count : ℕ) (out : List ℕ) : Type 0 where
  pub fits : count ≤ length out
  pub more : (rest : List ℕ) (end : Option PackFault) → new rest end → old (take count out ++ rest) end
  pub few : count + most_new ≤ most_old

-- the buffer is full of the next bytes of the pack, or the pack ends before the buffer is full
pub record Fills (old : Gives) (most_old : ℕ) (new : Gives) (most_new : ℕ) (count : ℕ) (out : List ℕ) : Type 0 where
  pub fits : count ≤ length out
  pub full : count ≡ length out → IsFilled old most_old new most_new count out
  pub whole : count < length out → old (take count out) None

-- the call queues the next piece of a pack, queues the rest of the pack, or fails because the packer fails
abbrev pub SaysPiece : Gives → ℕ → Gives → ℕ → Bytes → Bytes → Piece → Type 0
SaysPiece old most_old new most_new before out piece.More =
    (bytes : Bytes) × (out ≡ before ++ canonical_all (data_packet bytes ∷ [])) × (most_new < most_old)
    × ((packets : List Packet) (end : Option PackFault) → SaysPack new packets end
    → SaysPack old (data_packet bytes ∷ packets) end)
SaysPiece old most_old new most_new before out piece.Whole =
    (packets : List Packet) × (out ≡ before ++ canonical_all packets) × SaysPack old packets None
SaysPiece old most_old new most_new before out (piece.Failed fault) =
    (out ≡ before) × SaysPack old [] (Some fault)
