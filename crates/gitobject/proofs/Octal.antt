-- The octal digits of modes.
use Rattle.std.proofs.Common.{◌≡◌, ℕ, zero, suc, ◌+◌, ◌*◌, ◌%◌, ◌<◌, List, [], ◌∷◌, length, get_or, arith}
use Rattle.std.specs.Char.{digit_value}
use Rattle.std.specs.Str.Parse.{AllDigits}

-- each byte of an octal numeral is an octal digit
pub digit_at : (ds : List ℕ) (i : ℕ) → i < length ds → AllDigits 8 ds → digit_value (get_or ds i 0) < 8
digit_at [] i inside h = absurd (omega (arith, inside))
digit_at (d ∷ ds) zero inside h = h.0
digit_at (d ∷ ds) (suc i) inside h = digit_at ds i (omega (arith, inside)) h.1

-- the lowest sixteen bits of a number after one more octal digit `d`
pub bits_more : (v n d : ℕ) → n ≡ v % 65536 → (n * 8 + d) % 65536 ≡ (v * 8 + d) % 65536
bits_more v n d is = omega arith
