-- Bytes before and after a call.
use Rattle.std.specs.Prelude.{Option, MatchOption, ⊤}
use Rattle.gpkt.specs.Packets.{Bytes}

-- the bytes of a source or sink before a call and after it; `None` means that the bytes are unknown
pub record Change : Type 0 where
  pub old : Option Bytes
  pub new : Option Bytes

-- the bytes that `bytes_of` returns for the old state and for the new state of a source or sink
abbrev pub change_of : {D : Type 0} → (D → Option Bytes) → D → D → Change
change_of bytes_of old new = record { old = bytes_of old; new = bytes_of new }

-- if the old bytes are known, the new bytes are known too, and the predicate relates the old bytes and the new bytes
abbrev pub WhereKnown : Change → (Bytes → Bytes → Type 0) → Type 0
WhereKnown bytes P = MatchOption bytes.old ⊤ (λ old. MatchOption bytes.new ⊥ (λ new. P old new))
