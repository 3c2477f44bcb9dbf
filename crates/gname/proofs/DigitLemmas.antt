-- The table of digit pairs and the table of digit values.
use Rattle.std.proofs.Common.{◌≡◌, ℕ, ◌*◌, ◌+◌, ◌/◌, ◌%◌, ◌<◌, ◌==◌, ◌&&◌, Bool, true, ◌∙◌, List, map, slice_index, Option, Some, None, Ok, unwrap_or, refl, ap, arith}
use Rattle.std.specs.Cmp.{first_so, second_so}
use Rattle.std.specs.List.{list_all, range_with_len}
use Rattle.std.proofs.lemmas.List.FromFn.{get_or-map-range_with_len, get_or-range_with_len, length-range_with_len}
use Rattle.std.proofs.lemmas.List.Sums.{AllPass-from_list_all}
use Rattle.std.proofs.lemmas.Bool.{eqb-true}
use Rattle.hex.specs.Hex.{hex_digit_value, lower_digits, pair_value}

-- whether the table has the two digits of the byte at position `2 * byte`
abbrev has_pair : List ℕ → ℕ → Bool
has_pair table byte =
    slice_index table (2 * byte) == slice_index lower_digits (byte / 16)
    && slice_index table (2 * byte + 1) == slice_index lower_digits (byte % 16)

-- whether the table has the two digits of each byte from 0 to 255
abbrev pub has_pairs : List ℕ → Bool
has_pairs table = list_all (has_pair table) (range_with_len 0 256)

pub pair_at : (table : List ℕ) → has_pairs table ≡ true → (byte : ℕ) → byte < 256
    → (slice_index table (2 * byte) ≡ slice_index lower_digits (byte / 16))
    × (slice_index table (2 * byte + 1) ≡ slice_index lower_digits (byte % 16))
pair_at table whole byte low =
    let long = length-range_with_len 0 256 in
    let here = AllPass-from_list_all (has_pair table) (range_with_len 0 256) whole byte 0 (omega (arith, long)) in
    let place : slice_index (range_with_len 0 256) byte ≡ byte = get_or-range_with_len 0 256 byte 0 low ∙ omega arith in
    let both : has_pair table byte ≡ true = rw place at here in
    (eqb-true _ _ (first_so _ _ both), eqb-true _ _ (second_so _ _ both))

-- the value of a digit, or 255 for a byte that is not a digit
abbrev pub worth : ℕ → ℕ
worth byte = unwrap_or (hex_digit_value byte) 255

is_worth : (found : Option ℕ) → unwrap_or found 255 < 16 → found ≡ Some (unwrap_or found 255)
is_worth None small = absurd (omega (arith, small))
is_worth (Some value) small = refl

-- in a table with the digit value of each byte, an element less than 16 is the value of a hexadecimal digit
pub value_in : (table : List ℕ) → table ≡ map worth (range_with_len 0 256) → (byte : ℕ) → byte < 256
    → slice_index table byte < 16 → hex_digit_value byte ≡ Some (slice_index table byte)
value_in table is byte low small =
    let here : slice_index table byte ≡ worth byte =
    ap (λ (t : List ℕ). slice_index t byte) is ∙ get_or-map-range_with_len worth 0 256 byte byte 0 low (omega arith) in
    rw here (is_worth (hex_digit_value byte) (rw here at small))

-- the value of a pair of digits, computed from the values of both digits
pub pair_read : (high low i h l : ℕ) → hex_digit_value high ≡ Some h → hex_digit_value low ≡ Some l
    → pair_value high low i ≡ Ok (h * 16 + l)
pair_read high low i h l first second = rw (first, second) refl
