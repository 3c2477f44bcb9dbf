-- The tables that CRC-32 uses to process eight bytes at a time.
use Rattle.std.specs.Prelude.{ℕ, ◌*◌}
use Rattle.gzlib.specs.Crc.{shift_bits}

-- the register after `count` zero bytes, if the register starts at the value of this byte
unfoldable pub after_bytes : ℕ → ℕ → ℕ
after_bytes count byte = shift_bits (8 * count) byte
