-- Reading and writing numbers in groups of seven bits.
use Rattle.std.proofs.Common.{◌≡◌, inl, inr, ℕ, zero, suc, ◌+◌, ◌-◌, ◌*◌, ◌%◌, ◌^◌, ◌<◌, ◌≤◌, List, [], ◌∷◌, ◌++◌, length, take, get_or, refl, sym, ap, subst, ◌∙◌, length-append, add-one, arith}
use Rattle.std.proofs.lemmas.List.{take_more, reverse-append, length-take-le}
use Rattle.std.proofs.Math.Nat.{pow-succ', pow-le-pow_right}
use Rattle.gitpack.specs.Numbers.{IsNumber, low_first, carries, high_first}

-- ---- the end of a number

number_cons : (b c : ℕ) (t u x y : List ℕ) → b ∷ (t ++ x) ≡ c ∷ (u ++ y) → (b ≡ c) × (t ++ x ≡ u ++ y)
number_cons b c t u x y is = (cc, cc)

-- a byte sequence begins with at most one encoded number
pub number_once : (t u x y : List ℕ) → IsNumber t → IsNumber u → t ++ x ≡ u ++ y → (t ≡ u) × (x ≡ y)
number_once [] u x y one two is = absurd one
number_once (b ∷ t) [] x y one two is = absurd two
number_once (b ∷ t) (c ∷ u) x y one two is =
    let parts = number_cons b c t u x y is in
    let heads = parts.0 in
    elim one [
      | inl last ↦ elim two [
        | inl end ↦
            let none = last.1 in let nil = end.1 in
            let tails : x ≡ y = sym (ap (λ l. l ++ x) none) ∙ parts.1 ∙ ap (λ l. l ++ y) nil in
            (cc, tails)
        | inr on ↦ absurd (omega (arith, heads, last.0, on.0))
      ]
      | inr on ↦ elim two [
        | inl end ↦ absurd (omega (arith, heads, on.0, end.0))
        | inr more ↦
            let rest = number_once t u x y on.1 more.1 parts.1 in
            let tail = rest.0 in
            (cc, rest.1)
      ]
    ]

-- the bytes up to and including the first byte below 128 are an encoded number
cut_number : (bytes : List ℕ) (place : ℕ) → place < length bytes → ((k : ℕ) → k < place → 128 ≤ get_or bytes k 0) → get_or bytes place 0 < 128 → IsNumber (take (suc place) bytes)
cut_number [] place inside on last = absurd (omega (arith, inside))
cut_number (b ∷ bytes) zero inside on last = inl (last, refl)
cut_number (b ∷ bytes) (suc place) inside on last =
    let more = cut_number bytes place (omega (arith, inside)) (λ k h. on (suc k) (omega (arith, h))) last in
    inr (on zero (omega arith), more)

pub number_at : (bytes : List ℕ) (place : ℕ) → place < length bytes → ((k : ℕ) → k < place → 128 ≤ get_or bytes k 0) → get_or bytes place 0 < 128 → IsNumber (take (place + 1) bytes)
number_at bytes place inside on last = rw add-one (cut_number bytes place inside on last)

-- an encoded number has a byte below 128
pub number_ends : (text rest : List ℕ) → IsNumber text → (k : ℕ) × (k < length text) × (get_or (text ++ rest) k 0 < 128)
number_ends [] rest h = absurd h
number_ends (b ∷ text) rest (inl last) = (0, omega arith, last.0)
number_ends (b ∷ text) rest (inr on) =
    let more = number_ends text rest on.1 in (suc more.0, let h = more.1 in omega (arith, h), more.2)

pub no_number : (bytes : List ℕ) → ((k : ℕ) → k < length bytes → 128 ≤ get_or bytes k 0) → (text rest : List ℕ) → IsNumber text → ¬ (bytes ≡ text ++ rest)
no_number bytes on text rest is parts =
    let ends = number_ends text rest is in
    let inside : ends.0 < length bytes =
    let n = ap length parts in let m = length-append text rest in let k = ends.1 in omega (arith, n, m, k) in
    let high = on ends.0 inside in
    let low : get_or bytes ends.0 0 < 128 = subst (λ l. get_or l ends.0 0 < 128) (sym parts) ends.2 in
    absurd (omega (arith, high, low))

-- if the first `place` bytes are all at least 128, the bytes do not begin with a number of at most `most` bytes
pub long_number : (bytes : List ℕ) (place most : ℕ) → ((k : ℕ) → k < place → 128 ≤ get_or bytes k 0) → most ≤ place → (text rest : List ℕ) → IsNumber text → length text ≤ most → ¬ (bytes ≡ text ++ rest)
long_number bytes place most on over text rest is short parts =
    let ends = number_ends text rest is in
    let before : ends.0 < place = let k = ends.1 in omega (arith, k, short, over) in
    let high = on ends.0 before in
    let low : get_or bytes ends.0 0 < 128 = subst (λ l. get_or l ends.0 0 < 128) (sym parts) ends.2 in
    absurd (omega (arith, high, low))

-- ---- numbers whose lowest group comes first

pub low_first-push : (bytes : List ℕ) (b : ℕ) → low_first (bytes ++ b ∷ []) ≡ low_first bytes + (b % 128) * 128 ^ length bytes
low_first-push [] b = omega arith
low_first-push (c ∷ bytes) b =
    let h = low_first-push bytes b in
    let p = ap (λ v. (b % 128) * v) (pow-succ' 128 (length bytes)) in
    omega (arith, h, p)

pub low_first-more : (bytes : List ℕ) (i : ℕ) → i < length bytes → low_first (take (i + 1) bytes) ≡ low_first (take i bytes) + (get_or bytes i 0 % 128) * 128 ^ i
low_first-more bytes i inside =
    let b = get_or bytes i 0 in
    ap low_first (take_more bytes i 0 inside) ∙ low_first-push (take i bytes) b
    ∙ ap (λ n. low_first (take i bytes) + (b % 128) * 128 ^ n) (length-take-le i bytes (omega (arith, inside)))

pub pow_56 : (i : ℕ) → i ≤ 8 → 128 ^ i ≤ 72057594037927936
pow_56 i h = pow-le-pow_right {n = 128} (omega arith) h

pub pow_more : (i : ℕ) → 128 ^ (i + 1) ≡ 128 ^ i * 128
pow_more i = let p = pow-succ' 128 i in rw add-one (omega (arith, p))

-- ---- numbers whose highest group comes first

carries_step : (n : ℕ) → 128 ^ suc n + carries n ≡ 128 * carries n + 128
carries_step zero = refl
carries_step (suc n) =
    let h = carries_step n in let p = pow-succ' 128 (suc n) in omega (arith, h, p)

pub high_first-push : (c : ℕ) (bytes : List ℕ) (b : ℕ) → high_first (c ∷ (bytes ++ b ∷ [])) ≡ (high_first (c ∷ bytes) + 1) * 128 + b % 128
high_first-push c bytes b =
    let n = length bytes in
    let back = ap low_first (reverse-append (c ∷ bytes) (b ∷ [])) in
    let longer : length (c ∷ (bytes ++ b ∷ [])) - 1 ≡ suc n = omega (arith, length-append bytes (b ∷ [])) in
    let long : length (c ∷ bytes) - 1 ≡ n = omega arith in
    let over = ap carries longer in
    let same = ap carries long in
    let step = carries_step n in
    omega (arith, back, over, same, step)

pub high_first-more : (c : ℕ) (bytes : List ℕ) (i : ℕ) → i < length bytes → high_first (c ∷ take (i + 1) bytes) ≡ (high_first (c ∷ take i bytes) + 1) * 128 + get_or bytes i 0 % 128
high_first-more c bytes i inside = ap (λ l. high_first (c ∷ l)) (take_more bytes i 0 inside) ∙ high_first-push c (take i bytes) (get_or bytes i 0)

pub pow_57 : (i : ℕ) → i < 7 → 256 ^ (i + 1) ≤ 72057594037927936
pow_57 i h = let few : i + 1 ≤ 7 = omega (arith, h) in pow-le-pow_right {n = 256} (omega arith) few

pub pow_more_256 : (i : ℕ) → 256 ^ (i + 1) ≡ 256 ^ i * 256
pow_more_256 i = let p = pow-succ' 256 i in rw add-one (omega (arith, p))

pub high_first-one : (c : ℕ) → high_first (c ∷ []) ≡ c % 128
high_first-one c = let one : length (c ∷ []) - 1 ≡ 0 = refl in let over = ap carries one in omega (arith, over)
