-- CRC-32 (RFC 1952, section 8), computed in a register of 32 bits that is shifted right.
use Rattle.std.specs.Prelude.{◌≡◌, ℕ, zero, suc, ◌/◌, ◌%◌, ◌==◌, List, [], ◌∷◌, bit_xor}
use Rattle.std.specs.Prelude.{if◌then◌else◌}
use Rattle.std.specs.Int.{w32, bit_not}
use Rattle.gzlib.specs.declared.crc.Crc32.{Crc32}

-- the register after a shift by one bit, combined with the polynomial if the bit shifted out is 1
abbrev pub shift_out : ℕ → ℕ
shift_out register = if register % 2 == 1 then bit_xor (register / 2) 0xEDB8_8320 else register / 2

-- the register after this number of shifts by one bit
abbrev pub shift_bits : ℕ → ℕ → ℕ
shift_bits zero register = register
shift_bits (suc bits) register = shift_bits bits (shift_out register)

-- the register after one more byte
unfoldable pub next_register : ℕ → ℕ → ℕ
next_register register byte = shift_bits 8 (bit_xor register byte)

-- the register after more bytes
abbrev pub register_after : ℕ → List ℕ → ℕ
register_after register [] = register
register_after register (byte ∷ bytes) = register_after (next_register register byte) bytes

-- the checksum: the complement of the register, if the register starts with all bits set
abbrev pub crc32 : List ℕ → ℕ
crc32 bytes = bit_not w32 (register_after 0xFFFF_FFFF bytes)

-- the state is the register after these bytes
abbrev pub HasCrcOf : Crc32 → List ℕ → Type 0
HasCrcOf crc bytes = crc.register ≡ register_after 0xFFFF_FFFF bytes
