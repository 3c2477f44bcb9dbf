-- The limits that several crates share.
use Rattle.std.specs.Prelude.{ℕ}

-- the maximum length in bytes of a pack that is received, or that is written as a whole
abbrev pub max_pack : ℕ
max_pack = 67108864
