-- The bytes that an end receives from the other end.
use Rattle.std.specs.Prelude.{Bool, false, [], Some}
use Rattle.std.specs.Io.KnownBytes.{Consumes}
use Rattle.gpkt.specs.Change.{Change}
use Rattle.gpkt.specs.Packets.{Bytes}
use Rattle.gpkt.specs.Sending.{Input}

-- the change of an input of exactly these bytes, of which none is left
abbrev pub all_read : Bytes → Change
all_read received = record { old = Some received; new = Some [] }

-- Exactly the bytes `received` are read, if the bytes of the source are known. The predicate `Runs` holds for an input
-- of exactly these bytes; `lost` states whether this input then fails. Otherwise, it ends after these bytes.
pub record HearsAll (read : Change) (Runs : Change → Bool → Type 0) : Type 0 where
  pub received : Bytes
  pub consumed : Consumes read.old read.new received
  pub lost : Bool
  pub runs : Runs (all_read received) lost

-- the input of an end that has received all bytes of the change; `lost` states whether the input then fails
abbrev pub all_input : Change → Bool → Input
all_input read lost = record { read = read; was_down = false; is_down = lost }
