-- Adler-32 (RFC 1950, section 9): two sums modulo 65,521, the largest prime below 65,536.
use Rattle.std.specs.Prelude.{◌≡◌, ℕ, ◌+◌, ◌*◌, ◌%◌, List, [], ◌∷◌, sum}
use Rattle.gzlib.specs.declared.adler.Adler32.{Adler32}

-- the total of the values that the first sum has after each byte, if the first sum starts at `first`
abbrev pub sum_of_sums : ℕ → List ℕ → ℕ
sum_of_sums first [] = 0
sum_of_sums first (byte ∷ bytes) = (first + byte) + sum_of_sums (first + byte) bytes

-- the first sum: 1 plus the sum of all bytes
abbrev pub low_sum : List ℕ → ℕ
low_sum bytes = (1 + sum bytes) % 65521

-- the second sum: the total of the values that the first sum has after each byte
abbrev pub high_sum : List ℕ → ℕ
high_sum bytes = sum_of_sums 1 bytes % 65521

-- the checksum: the second sum in the high half, and the first sum in the low half
abbrev pub adler32 : List ℕ → ℕ
adler32 bytes = high_sum bytes * 65536 + low_sum bytes

-- the state consists of both sums of these bytes
abbrev pub HasAdlerOf : Adler32 → List ℕ → Type 0
HasAdlerOf adler bytes = (adler.low ≡ low_sum bytes) × (adler.high ≡ high_sum bytes)
