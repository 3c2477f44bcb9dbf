-- The bytes of a pack that a sink has accepted.
use Rattle.std.specs.Prelude.{Bool, true, false, IsTrue, ◌++◌}
use Rattle.gpkt.specs.Packets.{Bytes}

module _ {S : Type 0} (taken : S → Bytes → Type 0) (refuses : Bool) where
  -- the sink accepts the next piece, or a sink that may refuse pieces refuses the whole piece
  abbrev pub TakesPiece : S → S → Bytes → Bool → Type 0
  TakesPiece old new piece true = (before : Bytes) → taken old before → taken new (before ++ piece)
  TakesPiece old new piece false = IsTrue refuses × ((before : Bytes) → taken old before → taken new before)
