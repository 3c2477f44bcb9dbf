-- A text is read as a capability exactly if it is the text of a well-formed capability.
use Rattle.std.proofs.Common.{◌≡◌, ℕ, suc, ◌+◌, ◌<◌, ◌&&◌, Bool, true, false, nat_lt, if◌then◌else◌, List, [], ◌∷◌, ◌++◌, length, take, drop, get_or, position, Option, Some, None, refl, sym, ap, subst, ◌∙◌, append-nil, arith}
use Rattle.std.specs.Prelude.{IfSome, IsTrue}
use Rattle.std.specs.List.{position_or_len}
use Rattle.std.proofs.Math.Seq.{split_at}
use Rattle.std.proofs.lemmas.List.{take_at, drop_at, length_push, length-append, get_or_append_left, get_or_at, append_assoc}
use Rattle.std.proofs.lemmas.List.Quantifiers.{position-Some}
use Rattle.std.proofs.lemmas.List.Sums.{position_or_len_is, AllPass-from_list_all}
use Rattle.std.proofs.lemmas.Bool.{and_parts, cond-true, cond-false, eqb-true}
use Rattle.std.proofs.lemmas.Bool.Decides.{nat_tests}
use Rattle.std.proofs.lemmas.Grind.{common_steps}
use Rattle.ggrammar.specs.Capabilities.{Capability, CapabilityIsItsText, IsWellFormed, capability_of, capability_split, capability_text, is_equals_sign, is_key, is_key_byte, is_value, has_length, key_and_value, value_text}

-- ---- reading the text of a capability

other_byte : (byte : ℕ) → is_key_byte byte ≡ true → is_equals_sign byte ≡ false
other_byte byte h = grind (arith, nat_tests, common_steps)

no_equals_sign : (key : List ℕ) → is_key key ≡ true → (k : ℕ) → k < length key → is_equals_sign (get_or key k 0) ≡ false
unfolding is_key
no_equals_sign key h k within =
    other_byte (get_or key k 0) (AllPass-from_list_all is_key_byte key (and_parts (has_length key) _ h).1 k 0 within)

found_after : (key value : List ℕ) → is_key key ≡ true → position is_equals_sign (key ++ 61 ∷ value) ≡ Some (length key)
found_after key value h =
    let long : length (key ++ 61 ∷ value) ≡ length key + length (61 ∷ value) = length-append key (61 ∷ value) in
    let inside : length key < length (key ++ 61 ∷ value) = omega (arith, long) in
    let place : position_or_len is_equals_sign (key ++ 61 ∷ value) ≡ length key = position_or_len_is is_equals_sign (key ++ 61 ∷ value) (length key) 0 (omega (arith, inside))
    (λ k before. rw (get_or_append_left key (61 ∷ value) 0 k before) (no_equals_sign key h k before))
    (λ within. rw (get_or_at key 61 value 0 (length key) refl) refl) in
    rw place (cond-true (nat_lt (length key) (length (key ++ 61 ∷ value))) (Some (length key)) None (grind (arith, nat_tests)))

found_nowhere : (key : List ℕ) → is_key key ≡ true → position is_equals_sign key ≡ None
found_nowhere key h =
    let place : position_or_len is_equals_sign key ≡ length key = position_or_len_is is_equals_sign key (length key) 0 (omega arith) (no_equals_sign key h) (λ within. absurd (omega (arith, within))) in
    rw place (cond-false (nat_lt (length key) (length key)) (Some (length key)) None (grind (arith, nat_tests)))

read_of_parts : (key : List ℕ) (value : Option (List ℕ)) → is_key key ≡ true → IfSome value (λ bytes. IsTrue (is_value bytes))
    → capability_of (key ++ value_text value) ≡ Some (record { key = key; value = value })
unfolding capability_of
read_of_parts key None form value_form =
    ap (λ (xs : List ℕ). capability_split xs (position is_equals_sign xs)) (append-nil key)
    ∙ (ap (capability_split key) (found_nowhere key form) ∙ cond-true (is_key key) (Some (record { key = key; value = None })) None form)
read_of_parts key (Some value) form value_form =
    let front : take (length key) (key ++ 61 ∷ value) ≡ key = take_at key (61 ∷ value) (length key) refl in
    let back : drop (length key + 1) (key ++ 61 ∷ value) ≡ value = ap (drop (length key + 1)) (sym (append_assoc key (61 ∷ []) value)) ∙ drop_at (key ++ 61 ∷ []) value (length key + 1) (length_push key 61) in
    ap (capability_split (key ++ 61 ∷ value)) (found_after key value form)
    ∙ (ap (λ (k : List ℕ). key_and_value k (drop (length key + 1) (key ++ 61 ∷ value))) front
    ∙ (ap (key_and_value key) back
    ∙ cond-true (is_key key && is_value value) (Some (record { key = key; value = Some value })) None (rw (form, value_form) refl)))

-- ---- the text of a capability that was read

-- if a choice between `capability` and `None` yields `other`, the test is true and `other` is `capability`
chosen : (test : Bool) (capability other : Capability) → (if test then Some capability else None) ≡ Some other → (test ≡ true) × (capability ≡ other)
chosen true capability other e = (refl, cc)
chosen false capability other e = let none : None ≡ Some other = e in cc

split_is_text : (text : List ℕ) (place : Option ℕ) (capability : Capability) → position is_equals_sign text ≡ place
    → capability_split text place ≡ Some capability → (text ≡ capability_text capability) × IsWellFormed capability
split_is_text text None capability place e =
    let h = chosen (is_key text) (record { key = text; value = None }) capability e in
    subst (λ c. (text ≡ capability_text c) × IsWellFormed c) h.1 (sym (append-nil text), record { key = h.0; value = tt })
split_is_text text (Some at) capability place e =
    let h = chosen (is_key (take at text) && is_value (drop (at + 1) text)) _ capability e in
    let there = position-Some is_equals_sign text at 0 place in
    let next : suc at ≡ at + 1 = omega arith in
    let parts : text ≡ take at text ++ 61 ∷ drop (at + 1) text =
    split_at text at 0 there.0 ∙ ap (λ n. take at text ++ get_or text at 0 ∷ drop n text) next
    ∙ ap (λ byte. take at text ++ byte ∷ drop (at + 1) text) (eqb-true (get_or text at 0) 61 there.1) in
    let forms = and_parts (is_key (take at text)) (is_value (drop (at + 1) text)) h.0 in
    subst (λ c. (text ≡ capability_text c) × IsWellFormed c) h.1 (parts, record { key = forms.0; value = forms.1 })

text_of_read : (text : List ℕ) (capability : Capability) → capability_of text ≡ Some capability
    → (text ≡ capability_text capability) × IsWellFormed capability
unfolding capability_of
text_of_read text capability e = split_is_text text (position is_equals_sign text) capability refl e

pub capability_is_its_text : CapabilityIsItsText
capability_is_its_text text capability = (
  text_of_read text capability,
  λ h. ap capability_of h.0 ∙ read_of_parts capability.key capability.value h.1.key h.1.value,
)
