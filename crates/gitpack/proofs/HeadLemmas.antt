-- Writing the headers of pack entries.
use Rattle.std.proofs.Common.{◌≡◌, ℕ, zero, suc, ◌+◌, ◌-◌, ◌*◌, ◌/◌, ◌%◌, ◌^◌, ◌<◌, ◌≤◌, inl, inr, List, [], ◌∷◌, ◌++◌, length, All, Result, Ok, Err, OnOk, refl, ap, ◌∙◌, append_assoc, length-append, add-one, arith}
use Rattle.std.proofs.lemmas.List.Elements.{All-head, All-push, All-tail}
use Rattle.gitpack.specs.Numbers.{IsNumber, IsOffset, high_first, low_first}
use Rattle.gitpack.specs.Entries.{IsTypeAndSize}
use Rattle.gitpack.proofs.NumberLemmas.{high_first-push, pow_more}

pub on_ok : {T E : Type 0} (r : Result T E) (P Q : Type 0) → (P → Q) → OnOk r P → OnOk r Q
on_ok (Ok x) P Q f h = f h
on_ok (Err e) P Q f h = tt

-- `text` has at most `k + 1` bytes if `number` has at most `k + 1` groups of seven bits
abbrev pub Few : ℕ → List ℕ → Type 0
Few number text = (k : ℕ) → number < 128 ^ (k + 1) → length text ≤ k + 1

few_more : (number rest : ℕ) (text x : List ℕ) → 128 ≤ number → rest ≤ number / 128 → length x ≡ length text + 1 → Few rest text → Few number x
few_more number rest text x big less longer few zero below = absurd (omega (arith, big, below))
few_more number rest text x big less longer few (suc j) below =
    let p = pow_more (suc j) in
    let q = ap (λ n. 128 ^ n) (add-one j) in
    let short = few j (omega (arith, below, less, p, q)) in
    omega (arith, longer, short)

-- ---- sizes

pub size_more : (number : ℕ) (old mid new : List ℕ) → 128 ≤ number
    → mid ≡ old ++ (128 + number % 128) ∷ []
    → ((text : List ℕ) × IsNumber text × (number / 128 ≡ low_first text) × Few (number / 128) text × (new ≡ mid ++ text))
    → (text : List ℕ) × IsNumber text × (number ≡ low_first text) × Few number text × (new ≡ old ++ text)
size_more number old mid new big byte (text, is, value, few, after) =
    let b = 128 + number % 128 in (
      b ∷ text,
      inr (omega arith, is),
      omega (arith, value),
      few_more number (number / 128) text (b ∷ text) big (omega arith) (omega arith) few,
      after ∙ ap (λ l. l ++ text) byte ∙ append_assoc old (b ∷ []) text,
    )

pub type_more : (number size : ℕ) (old mid new : List ℕ) → number < 8 → 16 ≤ size → size < 1152921504606846976
    → mid ≡ old ++ (128 + (number * 16 + size % 16)) ∷ []
    → ((text : List ℕ) × IsNumber text × (size / 16 ≡ low_first text) × Few (size / 16) text × (new ≡ mid ++ text))
    → (text : List ℕ) × IsTypeAndSize number size text × (new ≡ old ++ text)
type_more number size old mid new small big short byte (text, is, value, few, after) =
    let b = 128 + (number * 16 + size % 16) in (
      b ∷ text,
      record {
        first = b;
        more = text;
        parts = refl;
        ends = inr (omega arith, is);
        short = few 7 (omega (arith, short));
        typed = omega (arith, small);
        sized = omega (arith, value);
      },
      after ∙ ap (λ l. l ++ text) byte ∙ append_assoc old (b ∷ []) text,
    )

-- ---- offsets

high_first-end : (text : List ℕ) (b : ℕ) → 0 < length text → high_first (text ++ b ∷ []) ≡ (high_first text + 1) * 128 + b % 128
high_first-end [] b some = absurd (omega (arith, some))
high_first-end (c ∷ bytes) b some = high_first-push c bytes b

number_end : (text : List ℕ) (d : ℕ) → All (λ b. 128 ≤ b) text → d < 128 → IsNumber (text ++ d ∷ [])
number_end [] d all low = inl (low, refl)
number_end (c ∷ text) d all low = inr (All-head (λ b. 128 ≤ b) c text all, number_end text d (All-tail (λ b. 128 ≤ b) c text all) low)

pub high_more : (number : ℕ) (old mid new : List ℕ) → 128 ≤ number
    → ((text : List ℕ) × (0 < length text) × All (λ b. 128 ≤ b) text × (number / 128 - 1 ≡ high_first text) × Few (number / 128 - 1) text × (mid ≡ old ++ text))
    → new ≡ mid ++ (128 + number % 128) ∷ []
    → (text : List ℕ) × (0 < length text) × All (λ b. 128 ≤ b) text × (number ≡ high_first text) × Few number text × (new ≡ old ++ text)
high_more number old mid new big (text, some, all, value, few, before) byte =
    let b = 128 + number % 128 in
    let x = text ++ b ∷ [] in
    let longer = length-append text (b ∷ []) in
    let v = high_first-end text b some in (
      x,
      omega (arith, longer),
      All-push (λ c. 128 ≤ c) text b all (omega arith),
      omega (arith, value, v, big),
      few_more number (number / 128 - 1) text x big (omega arith) (omega (arith, longer)) few,
      byte ∙ ap (λ l. l ++ b ∷ []) before ∙ append_assoc old text (b ∷ []),
    )

pub offset_more : (offset : ℕ) (old mid new : List ℕ) → 128 ≤ offset → offset < 72057594037927936
    → ((text : List ℕ) × (0 < length text) × All (λ b. 128 ≤ b) text × (offset / 128 - 1 ≡ high_first text) × Few (offset / 128 - 1) text × (mid ≡ old ++ text))
    → new ≡ mid ++ (offset % 128) ∷ []
    → (text : List ℕ) × IsOffset text offset × (new ≡ old ++ text)
offset_more offset old mid new big small (text, some, all, value, few, before) byte =
    let d = offset % 128 in
    let longer = length-append text (d ∷ []) in
    let v = high_first-end text d some in
    let short = few 6 (omega (arith, small)) in (
      text ++ d ∷ [],
      record {
        ends = number_end text d all (omega arith);
        short = omega (arith, longer, short);
        valued = omega (arith, value, v, big);
      },
      byte ∙ ap (λ l. l ++ d ∷ []) before ∙ append_assoc old text (d ∷ []),
    )
