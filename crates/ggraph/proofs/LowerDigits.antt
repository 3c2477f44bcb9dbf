-- Digits that encode some bytes are the text of these bytes exactly if none of the digits is an upper-case letter.
use Rattle.std.proofs.Common.{◌≡◌, ℕ, ◌+◌, ◌*◌, ◌/◌, ◌%◌, ◌<◌, ◌==◌, suc, nat_lt, Bool, false, if◌then◌else◌, List, [], ◌∷◌, slice_index, All, Option, Some, None, Result, Ok, Err, refl, sym, ap, ◌∙◌, subst, arith}
use Rattle.std.proofs.lemmas.Bool.{eqb-true}
use Rattle.std.proofs.lemmas.Bool.Decides.{nat_tests}
use Rattle.std.proofs.lemmas.List.Elements.{All-cons, All-head, All-nil, All-tail}
use Rattle.std.proofs.lemmas.List.FromFn.{get_or-range_with_len, length-range_with_len}
use Rattle.std.proofs.lemmas.List.Sums.{AllPass-from_list_all}
use Rattle.std.specs.Char.{is_ascii_uppercase}
use Rattle.std.specs.List.{range_with_len}
use Rattle.std.specs.Result.{result_unwrap_or}
use Rattle.hex.specs.Hex.{IsBytes, decode_of, decode_pairs, digit_or_error, encode_lower, encode_with, hex_digit_value, lower_digits, pair_value, value_at, ◌>>=◌}
use Rattle.hex.specs.declared.error.FromHexError.{FromHexError}
use Rattle.hex.proofs.HexLemmas.{decode_of-even, decode_of-ok}

-- the byte is not an upper-case letter
abbrev pub NotUpper : ℕ → Type 0
NotUpper c = is_ascii_uppercase c ≡ false

-- ---- one digit

-- the byte of the digit for a value below 16, in lower case
abbrev glyph : ℕ → ℕ
glyph v = if nat_lt v 10 then 48 + v else 87 + v

-- whether the digit at position `v` of the table is the lower-case digit for the value `v`
abbrev stands : ℕ → Bool
stands v = slice_index lower_digits v == glyph v

table_glyph : (v : ℕ) → v < 16 → slice_index lower_digits v ≡ glyph v
table_glyph v small =
    let long = length-range_with_len 0 16 in
    let here = AllPass-from_list_all stands (range_with_len 0 16) refl v 0 (omega (arith, long)) in
    let place : slice_index (range_with_len 0 16) v ≡ v = get_or-range_with_len 0 16 v 0 small ∙ omega arith in
    eqb-true _ _ (rw place at here)

-- a digit that is not an upper-case letter is the lower-case digit for its value
read_glyph : (c v : ℕ) → hex_digit_value c ≡ Some v → NotUpper c → (v < 16) × (glyph v ≡ c)
read_glyph c v h low = (grind (arith, nat_tests), grind (arith, nat_tests))

-- the lower-case digit for a value is not an upper-case letter
glyph_lower : (v : ℕ) → v < 16 → NotUpper (glyph v)
glyph_lower v small = grind (arith, nat_tests)

written_lower : (v : ℕ) → v < 16 → NotUpper (slice_index lower_digits v)
written_lower v small = subst NotUpper (sym (table_glyph v small)) (glyph_lower v small)

-- ---- the digits that are written

encode_is_lower : (bytes : List ℕ) → IsBytes bytes → All NotUpper (encode_lower bytes)
unfolding encode_with
encode_is_lower [] h = All-nil NotUpper
encode_is_lower (b ∷ rest) h =
    let fits : b < 256 = h 0 in
    let more = encode_is_lower rest (λ k. h (suc k)) in
    let second : ℕ = slice_index lower_digits (b % 16) in
    All-cons NotUpper (slice_index lower_digits (b / 16)) (second ∷ encode_lower rest) (written_lower (b / 16) (omega arith))
    (All-cons NotUpper second (encode_lower rest) (written_lower (b % 16) (omega arith)) more)

-- ---- the digits that are read

-- if `r >>= f` returns `Ok`, both `r` and the call of `f` return `Ok`
both_ok : {A B : Type 0} (r : Result A FromHexError) (f : A → Result B FromHexError) (y : B)
    → (r >>= f) ≡ Ok y → (x : A) × (r ≡ Ok x) × (f x ≡ Ok y)
both_ok (Ok x) f y h = (x, refl, h)
both_ok (Err e) f y h = cc h

-- if `digit_or_error` returns `Ok v`, its argument `o` is `Some v`
digit_some : (c i : ℕ) (o : Option ℕ) (v : ℕ) → digit_or_error c i o ≡ Ok v → o ≡ Some v
digit_some c i (Some w) v h = ap Some (ap (λ (r : Result ℕ FromHexError). result_unwrap_or r 0) h)
digit_some c i None v h = cc h

read_lower : (i : ℕ) (text bytes : List ℕ) → decode_pairs i text ≡ Ok bytes → All NotUpper text → text ≡ encode_lower bytes
unfolding decode_pairs encode_with
read_lower i [] bytes h low = ap encode_lower (ap (λ (r : Result (List ℕ) FromHexError). result_unwrap_or r []) h)
read_lower i (a ∷ []) bytes h low = cc h
read_lower i (a ∷ b ∷ rest) bytes h low =
    let p0 = both_ok (pair_value a b i) _ bytes h in
    let p1 = both_ok (value_at a i) _ p0.0 p0.1 in
    let p2 = both_ok (value_at b (i + 1)) _ p0.0 p1.2 in
    let p3 = both_ok (decode_pairs (i + 2) rest) _ bytes p0.2 in
    let tail = All-tail NotUpper a (b ∷ rest) low in
    let high = read_glyph a p1.0 (digit_some a i (hex_digit_value a) p1.0 p1.1) (All-head NotUpper a (b ∷ rest) low) in
    let last = read_glyph b p2.0 (digit_some b (i + 1) (hex_digit_value b) p2.0 p2.1) (All-head NotUpper b rest tail) in
    let byte : p1.0 * 16 + p2.0 ≡ p0.0 = ap (λ (r : Result ℕ FromHexError). result_unwrap_or r 0) p2.2 in
    let upper : p1.0 ≡ p0.0 / 16 = omega (arith, byte, high.0, last.0) in
    let lower : p2.0 ≡ p0.0 % 16 = omega (arith, byte, high.0, last.0) in
    let first : a ≡ slice_index lower_digits (p0.0 / 16) = sym high.1 ∙ sym (table_glyph p1.0 high.0) ∙ ap (slice_index lower_digits) upper in
    let second : b ≡ slice_index lower_digits (p0.0 % 16) = sym last.1 ∙ sym (table_glyph p2.0 last.0) ∙ ap (slice_index lower_digits) lower in
    let more = read_lower (i + 2) rest p3.0 p3.1 (All-tail NotUpper b rest tail) in
    let e : p0.0 ∷ p3.0 ≡ bytes = ap (λ (r : Result (List ℕ) FromHexError). result_unwrap_or r []) p3.2 in
    ap (λ (x : ℕ). x ∷ b ∷ rest) first
    ∙ ap (λ (x : ℕ). slice_index lower_digits (p0.0 / 16) ∷ x ∷ rest) second
    ∙ ap (λ (t : List ℕ). slice_index lower_digits (p0.0 / 16) ∷ slice_index lower_digits (p0.0 % 16) ∷ t) more
    ∙ ap encode_lower e

-- ---- writing and reading

-- digits without upper-case letters are the text of the bytes that they encode
pub lower_is_text : (text bytes : List ℕ) → decode_of text ≡ Ok bytes → All NotUpper text → text ≡ encode_lower bytes
lower_is_text text bytes h low =
    read_lower 0 text bytes (sym (decode_of-even text (decode_of-ok text bytes h).0) ∙ h) low

-- digits that are the text of the bytes that they encode have no upper-case letters
pub text_is_lower : (text bytes : List ℕ) → decode_of text ≡ Ok bytes → text ≡ encode_lower bytes → All NotUpper text
text_is_lower text bytes h e = subst (All NotUpper) (sym e) (encode_is_lower bytes (decode_of-ok text bytes h).3)
