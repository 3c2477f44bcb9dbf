-- Facts about object ids and their texts.
use Rattle.std.proofs.Common.{◌≡◌, ◌≢◌, ℕ, ◌+◌, ◌*◌, ◌%◌, ◌<◌, ◌≤◌, true, inl, inr, List, length, take, Result, Ok, Err, IsErrAnd, refl, sym, ap, ◌∙◌, arith}
use Rattle.std.specs.List.{AllPass}
use Rattle.std.specs.Result.{result_unwrap_or}
use Rattle.std.proofs.Math.ListN.{length-take}
use Rattle.std.proofs.lemmas.Bool.{cases_eq, cases_order}
use Rattle.std.proofs.lemmas.Bool.Decides.{nat_tests}
use Rattle.std.proofs.lemmas.List.{get_or-take}
use Rattle.hex.specs.Hex.{decode_of, decode_sized, is_hex_digit, lower_digits, upper_digits}
use Rattle.hex.specs.declared.error.FromHexError.{FromHexError}
use Rattle.hex.specs.declared.error.FromHexError.TheVariants.{InvalidStringLength, OddLength}
use Rattle.hex.proofs.HexLemmas.{decode_of-ok, decode_of-err, decode_of-encode_lower, decode_of-encode_upper, decode_sized-twice, decode_sized-other, decode_sized-odd, length-encode_with}
use Rattle.gname.specs.declared.formats.Format.{Format}
use Rattle.gname.specs.declared.formats.Format.TheVariants.{Sha1, Sha256}
use Rattle.gname.specs.Formats.{id_length, id_text_length}
use Rattle.gname.specs.Ids.{IsId, IsIdOf, IsIdText, IsIdTextOf, IsFirstBadDigit, ReadsId, format_of, id_text, upper_id_text, id_fault_of}
use Rattle.gname.specs.Laws.{IdTextFacts}
use Rattle.gname.specs.declared.ids.OidFault.{OidFault}
use Rattle.gname.specs.declared.ids.OidFault.TheVariants.{Length, Digit}

-- an id has at most 64 digits
pub few_digits : (format : Format) → id_text_length format ≤ 64
few_digits Sha1 = omega arith
few_digits Sha256 = omega arith

-- an id of a format has that format
format_of-id : (format : Format) (id : List ℕ) → IsIdOf format id → format_of id ≡ format
format_of-id Sha1 id h = rw h.long refl
format_of-id Sha256 id h = rw h.long refl

pub ids_have_one_format : (format : Format) (id : List ℕ) → IsIdOf format id → IsId id × (format_of id ≡ format)
ids_have_one_format format id h = let same = format_of-id format id h in (rw same h, same)

-- the id that a text encodes is valid
pub IsIdOf-of_text : (format : Format) (text id : List ℕ) → IsIdTextOf format text id → IsIdOf format id
IsIdOf-of_text format text id h =
    let parts = decode_of-ok text id h.spells in
    record { long = omega (arith, parts.2, h.long); bytes = parts.3 }

-- each byte of an id's text is a hexadecimal digit
AllPass-of_id_text : (text id : List ℕ) → decode_of text ≡ Ok id → AllPass is_hex_digit text
AllPass-of_id_text text id h = (decode_of-ok text id h).1

-- the text of an id, in lower case or in upper case, encodes that id
pub ids_have_texts : (id : List ℕ) → IsId id → IsIdText (id_text id) id × IsIdText (upper_id_text id) id
ids_have_texts id h = (
  record { long = length-encode_with lower_digits id ∙ ap (λ n. 2 * n) h.long; spells = decode_of-encode_lower id h.bytes },
  record { long = length-encode_with upper_digits id ∙ ap (λ n. 2 * n) h.long; spells = decode_of-encode_upper id h.bytes },
)

-- a text encodes at most one id
one_decoding : (text a b : List ℕ) → decode_of text ≡ Ok a → decode_of text ≡ Ok b → a ≡ b
one_decoding text a b h k = ap (λ (r : Result (List ℕ) FromHexError). result_unwrap_or r a) (sym h ∙ k)

pub texts_spell_one_id : (text a b : List ℕ) → IsIdText text a → IsIdText text b → a ≡ b
texts_spell_one_id text a b h k = one_decoding text a b h.spells k.spells

-- the error of a result, or `d` if the result is not an error
abbrev err_or : FromHexError → Result (List ℕ) FromHexError → FromHexError
err_or d (Ok x) = d
err_or d (Err e) = e

wrong_length : (format : Format) (text : List ℕ) (e found : FromHexError) → length text ≢ id_text_length format
    → id_fault_of found ≡ Length → e ≡ found → ReadsId format text (Err (id_fault_of e))
wrong_length format text e found other is same = rw (same, is) other

-- if a text does not encode an id, the fault is a wrong length or the first bad digit
pub ReadsId-err : (format : Format) (text : List ℕ) (e : FromHexError) → decode_sized text (id_length format) ≡ Err e
    → ReadsId format text (Err (id_fault_of e))
ReadsId-err format text e h =
    elim (cases_eq (length text) (id_text_length format)) [
      | inl long ↦
          elim (decode_of-err text e (sym (decode_sized-twice text (id_length format) long) ∙ h)) [
            | inl odd ↦ absurd (omega (arith, odd.0))
            | inr bad ↦
                let place : 0 + bad.0 ≡ bad.0 = omega arith in
                rw (bad.1, place) (long, record { inside = bad.2; before = bad.4; bad = bad.3 })
          ]
      | inr other ↦
          elim (cases_eq (length text % 2) 1) [
            | inl odd ↦ wrong_length format text e OddLength other refl (ap (err_or e) (sym h ∙ decode_sized-odd text (id_length format) odd))
            | inr even ↦
                wrong_length format text e InvalidStringLength other refl (ap (err_or e)
                (sym h ∙ decode_sized-other text (id_length format) (omega arith) (λ half. other (omega arith))))
          ]
    ]

-- the same for the result of a function that converts the error with `?`
pub id_is_refused : (format : Format) (text : List ℕ) (e : FromHexError) (r : Result (List ℕ) OidFault)
    → Err e ≡ decode_sized text (id_length format) → IsErrAnd r (λ fault. fault ≡ id_fault_of e) → ReadsId format text r
id_is_refused format text e (Ok id) h is = absurd is
id_is_refused format text e (Err fault) h is = rw is (ReadsId-err format text e (sym h))

-- ---- uniqueness of the result of parsing

-- a text of hexadecimal digits has no bad digit
no_bad_digit : (text : List ℕ) (at : ℕ) → AllPass is_hex_digit text → IsFirstBadDigit text at → ⊥
no_bad_digit text at digits bad = cc (sym (digits at 0 bad.inside) ∙ bad.bad)

-- the first bad digit is not before another first bad digit
not_before : (text : List ℕ) (a b : ℕ) → IsFirstBadDigit text a → IsFirstBadDigit text b → a < b → ⊥
not_before text a b first other low =
    let taken = length-take b text in
    let inside : a < length (take b text) = omega (arith, taken, first.inside, other.inside) in
    cc (sym (other.before a 0 inside) ∙ (ap is_hex_digit (get_or-take b text a 0 low) ∙ first.bad))

one_place : (text : List ℕ) (a b : ℕ) → IsFirstBadDigit text a → IsFirstBadDigit text b → a ≡ b
one_place text a b first other =
    elim (cases_order a b) [
      | inl same ↦ same
      | inr (inl low) ↦ absurd (not_before text a b first other low)
      | inr (inr high) ↦ absurd (not_before text b a other first high)
    ]

-- parsing a text has at most one result
ReadsId-one : (format : Format) (text : List ℕ) (a b : Result (List ℕ) OidFault)
    → ReadsId format text a → ReadsId format text b → a ≡ b
ReadsId-one format text (Ok a) (Ok b) h k = ap Ok (one_decoding text a b h.0.spells k.0.spells)
ReadsId-one format text (Err Length) (Err Length) h k = refl
ReadsId-one format text (Err (Digit at)) (Err (Digit other)) h k =
    ap (λ n. Err (Digit n)) (one_place text at other h.1 k.1)
ReadsId-one format text (Ok a) (Err (Digit at)) h k =
    absurd (no_bad_digit text at (AllPass-of_id_text text a h.0.spells) k.1)
ReadsId-one format text (Err (Digit at)) (Ok b) h k =
    absurd (no_bad_digit text at (AllPass-of_id_text text b k.0.spells) h.1)
ReadsId-one format text _ _ h k = grind arith

pub texts_have_one_reading : (format : Format) (text : List ℕ)
    → ((id : List ℕ) → IsIdTextOf format text id → ReadsId format text (Ok id))
    × ((a b : Result (List ℕ) OidFault) → ReadsId format text a → ReadsId format text b → a ≡ b)
texts_have_one_reading format text = (λ id h. (h, IsIdOf-of_text format text id h), ReadsId-one format text)

-- a hexadecimal digit is greater than 32, the byte of a space
hex_digit_clean : (b : ℕ) → is_hex_digit b ≡ true → 32 < b
hex_digit_clean b h = grind (arith, nat_tests)

pub id_texts_are_digits : (text id : List ℕ) → IsIdText text id → IdTextFacts text id
id_texts_are_digits text id h =
    let digits = AllPass-of_id_text text id h.spells in
    record { spelt = IsIdOf-of_text (format_of id) text id h; digits = digits; clean = λ k d low. hex_digit_clean _ (digits k d low) }
