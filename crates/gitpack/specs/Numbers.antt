-- Numbers in groups of seven bits (gitformat-pack(5), "Size encoding" and `OBJ_OFS_DELTA`). The low seven bits of a
-- byte are one group.
use Rattle.std.specs.Prelude.{◌≡◌, ℕ, zero, suc, ◌+◌, ◌-◌, ◌*◌, ◌%◌, ◌^◌, ◌<◌, ◌≤◌, ◌⊎◌, List, [], ◌∷◌, length, reverse}

-- the bytes of one encoded number: only the last byte is below 128
abbrev pub IsNumber : List ℕ → Type 0
IsNumber [] = ⊥
IsNumber (b ∷ bytes) = ((b < 128) × (bytes ≡ [])) ⊎ ((128 ≤ b) × IsNumber bytes)

-- the number with these groups of seven bits, the lowest group first
abbrev pub low_first : List ℕ → ℕ
low_first [] = 0
low_first (b ∷ bytes) = b % 128 + 128 * low_first bytes

-- the sum 2^7 + 2^14 + .. + 2^(7 n)
abbrev pub carries : ℕ → ℕ
carries zero = 0
carries (suc n) = 128 ^ suc n + carries n

-- the number with these groups of seven bits, the highest group first, plus 2^7 + 2^14 + .. + 2^(7 n) if n bytes follow
-- the first byte
abbrev pub high_first : List ℕ → ℕ
high_first bytes = low_first (reverse bytes) + carries (length bytes - 1)

-- an encoded size: at most eight bytes, the lowest group of seven bits first
pub record IsSize (text : List ℕ) (size : ℕ) : Type 0 where
  pub ends : IsNumber text
  pub short : length text ≤ 8
  pub valued : size ≡ low_first text

-- an encoded offset of a delta base: at most eight bytes, the highest group of seven bits first
pub record IsOffset (text : List ℕ) (offset : ℕ) : Type 0 where
  pub ends : IsNumber text
  pub short : length text ≤ 8
  pub valued : offset ≡ high_first text
