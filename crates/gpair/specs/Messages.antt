-- A sink that holds a message back until a flush.
use Rattle.std.specs.Prelude.{ℕ, Bool}
use Rattle.gpkt.specs.Packets.{Bytes}

-- a message sink: its inner sink, the held bytes and the number of flushed bytes; whether a message was too long,
-- whether memory for a message ran out, and whether the sink has failed
pub record Holding (W : Type 0) : Type 0 where
  pub inner : W
  pub held : Bytes
  pub flushed : ℕ
  pub too_long : Bool
  pub lacks_memory : Bool
  pub down : Bool

-- the maximum length of a message in bytes
abbrev pub max_message : ℕ
max_message = 32_768
