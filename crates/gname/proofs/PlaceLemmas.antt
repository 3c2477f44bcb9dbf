-- The first position of a text that passes a test, and the searches that find this position.
use Rattle.std.proofs.Common.{◌≡◌, ℕ, zero, suc, ◌+◌, ◌<◌, ◌≤◌, Bool, true, false, cond, inl, inr, List, length, take, drop, slice_index, Option, Some, None, MatchOption, refl, sym, ap, ◌∙◌, arith, take_all, le_refl, length-drop}
use Rattle.std.proofs.Math.ListN.{length-take}
use Rattle.std.proofs.lemmas.Bool.{cases_eq, cases_order, eq-eqb, false_from_ne_true}
use Rattle.std.proofs.lemmas.Slice.Eq.{bytes_eq-Decides}
use Rattle.std.proofs.lemmas.List.Sums.{position_or_len_is}
use Rattle.std.specs.List.{before_first}
use Rattle.memchr.specs.Find.{FindsNeedle, IsFirst, IsFirstByte, OccursAt, is_byte}
use Rattle.memchr.proofs.lemmas.MatchLemmas.{OccursAt-part, OccursAt-from_part}
use Rattle.gname.specs.Names.{first_place, first_place_from, is_slash, stands_at}

-- ---- the first position

-- `r` is the first position up to and including `n` that passes the test
abbrev pub IsFirstOf : (ℕ → Bool) → ℕ → Option ℕ → Type 0
IsFirstOf test n r =
    MatchOption r ((j : ℕ) → j ≤ n → test j ≡ false)
    (λ at. (at ≤ n) × (test at ≡ true) × ((j : ℕ) → j < at → test j ≡ false))

-- `r` is the first position from `at` on and before `end` that passes the test
abbrev IsFirstPlace : (ℕ → Bool) → ℕ → ℕ → Option ℕ → Type 0
IsFirstPlace test at end r =
    MatchOption r ((j : ℕ) → at ≤ j → j < end → test j ≡ false)
    (λ k. (at ≤ k) × (k < end) × (test k ≡ true) × ((j : ℕ) → at ≤ j → j < k → test j ≡ false))

cond_found : (test : ℕ → Bool) (at : ℕ) (b : Bool) → test at ≡ b → (later : Option ℕ) (end : ℕ) → at < end
    → IsFirstPlace test (at + 1) end later → IsFirstPlace test at end (cond b (Some at) later)
cond_found test at true here later end low rest = (omega arith, low, here, λ j a b. absurd (omega arith))
cond_found test at false here None end low rest = λ j a b. elim (cases_eq at j) [
  | inl same ↦ rw (← same) here
  | inr other ↦ rest j (omega arith) b
]
cond_found test at false here (Some k) end low rest = (
  omega (arith, rest.0),
  rest.1,
  rest.2,
  λ j a b. elim (cases_eq at j) [
    | inl same ↦ rw (← same) here
    | inr other ↦ rest.3 j (omega arith) b
  ],
)

first_place_from-is : (test : ℕ → Bool) (at more : ℕ) → IsFirstPlace test at (at + more) (first_place_from test at more)
unfolding first_place_from
first_place_from-is test at zero = λ j a b. absurd (omega arith)
first_place_from-is test at (suc more) =
    let e : at + 1 + more ≡ at + suc more = omega arith in
    cond_found test at (test at) refl (first_place_from test (at + 1) more) (at + suc more) (omega arith)
    (rw e at (first_place_from-is test (at + 1) more))

of_text : (test : ℕ → Bool) (n : ℕ) (r : Option ℕ) → IsFirstPlace test 0 (0 + (n + 1)) r → IsFirstOf test n r
of_text test n None h = λ j low. h j (omega arith) (omega arith)
of_text test n (Some k) h = (omega (arith, h.1), h.2, λ j low. h.3 j (omega arith) low)

pub first_places_are_first : (test : ℕ → Bool) (text : List ℕ) → IsFirstOf test (length text) (first_place test text)
first_places_are_first test text = of_text test (length text) (first_place test text) (first_place_from-is test 0 (length text + 1))

-- there is at most one first position
one_first : (test : ℕ → Bool) (n : ℕ) (a b : Option ℕ) → IsFirstOf test n a → IsFirstOf test n b → a ≡ b
one_first test n None None f h = refl
one_first test n None (Some k) f h = cc (sym h.1 ∙ f k h.0)
one_first test n (Some k) None f h = cc (sym f.1 ∙ h k f.0)
one_first test n (Some k) (Some j) f h = elim (cases_order k j) [
  | inl same ↦ ap Some same
  | inr (inl low) ↦ cc (sym f.1 ∙ h.2 k low)
  | inr (inr high) ↦ cc (sym h.1 ∙ f.2 j high)
]

pub first_place_is : (test : ℕ → Bool) (text : List ℕ) (r : Option ℕ) → IsFirstOf test (length text) r → first_place test text ≡ r
first_place_is test text r h = one_first test (length text) (first_place test text) r (first_places_are_first test text) h

-- ---- the searches that find the first position

-- if the test decides P, the first position for which P holds is the first that passes the test
first-of_search : (test : ℕ → Bool) (n : ℕ) (P : ℕ → Type 0) (r : Option ℕ) → ((k : ℕ) → test k ≡ true → P k)
    → ((k : ℕ) → P k → test k ≡ true) → IsFirst P 0 (n + 1) r → IsFirstOf test n r
first-of_search test n P None sound whole h = λ j b. false_from_ne_true (test j) (λ t. h j (omega arith) (omega arith) (sound j t))
first-of_search test n P (Some k) sound whole h =
    let first = h.0 in
    let high = first.high in
    (omega (arith, high), whole k h.1, λ j b. false_from_ne_true (test j) (λ t. first.before j (omega arith) b (sound j t)))

-- `stands_at` implies `OccursAt`
OccursAt-of_stands : (text needle : List ℕ) (k : ℕ) → 0 < length needle → stands_at text needle k ≡ true
    → OccursAt text needle k
OccursAt-of_stands text needle k some h =
    let same : needle ≡ take (length needle) (drop k text) = (bytes_eq-Decides needle (take (length needle) (drop k text))).0 h in
    let long = ap length same ∙ length-take (length needle) (drop k text) in
    OccursAt-from_part text needle k (omega (arith, long, length-drop k text)) (sym same)

-- `OccursAt` implies `stands_at`
stands-of_OccursAt : (text needle : List ℕ) (k : ℕ) → OccursAt text needle k → stands_at text needle k ≡ true
stands-of_OccursAt text needle k h =
    (bytes_eq-Decides needle (take (length needle) (drop k text))).1 (sym (OccursAt-part text needle k h))

-- a search for bytes finds the first position at which the bytes occur
pub first_place_occurs : (text needle : List ℕ) (r : Option ℕ) → 0 < length needle
    → IsFirst (OccursAt text needle) 0 (length text + 1) r → first_place (stands_at text needle) text ≡ r
first_place_occurs text needle r some h =
    first_place_is (stands_at text needle) text r (first-of_search (stands_at text needle) (length text) (OccursAt text needle) r
    (λ k. OccursAt-of_stands text needle k some) (λ k. stands-of_OccursAt text needle k) h)

-- a search for a slash finds the end of a component
pub component_of_search : (rest : List ℕ) (r : Option ℕ) → IsFirstByte (is_byte 47) rest r
    → MatchOption r (rest ≡ before_first is_slash rest) (λ len. take len rest ≡ before_first is_slash rest)
component_of_search rest None h =
    let whole = position_or_len_is is_slash rest (length rest) 0 (le_refl (length rest))
    (λ j b. false_from_ne_true (is_slash (slice_index rest j)) (λ t. h j (omega arith) b t)) (λ b. absurd (omega arith)) in
    sym (ap (λ n. take n rest) whole ∙ take_all (length rest) rest (le_refl (length rest)))
component_of_search rest (Some len) h =
    let first = h.0 in
    let high = first.high in
    let place = position_or_len_is is_slash rest len 0 (omega (arith, high))
    (λ j b. false_from_ne_true (is_slash (slice_index rest j)) (λ t. first.before j (omega arith) b t)) (λ _. h.1) in
    sym (ap (λ n. take n rest) place)

-- a text that does not contain the first byte of a pair does not contain the pair
pub no_pair : (text pair : List ℕ) → length pair ≡ 2 → IsFirstByte (is_byte (slice_index pair 0)) text None
    → FindsNeedle text pair 0 None
no_pair text pair two none = λ k low high occurs.
    let fits = occurs.fits in
    let here : k + 0 ≡ k = omega arith in
    none k low (omega (arith, fits, two))
    (eq-eqb (slice_index text k) (slice_index pair 0) (rw here at (occurs.reads 0 (omega (arith, two)))))
