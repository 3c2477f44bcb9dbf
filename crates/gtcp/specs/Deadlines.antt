-- The limit on the duration of a read from a peer.
use Rattle.std.specs.Prelude.{ℕ}

-- the maximum duration of a read, in nanoseconds
abbrev pub longest_wait : ℕ
longest_wait = 60_000_000_000
