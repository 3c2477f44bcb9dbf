-- The sums of Adler-32 over pieces of the bytes, reduced after each piece.
use Rattle.std.proofs.Common.{◌≡◌, ℕ, ◌+◌, ◌*◌, ◌/◌, ◌%◌, ◌<◌, List, [], ◌∷◌, ◌++◌, length, take, get_or, sum, ap, sym, ◌∙◌, arith, add-zero}
use Rattle.std.proofs.Math.Nat.{add-mul-mod_self_right, mod-add-mod, add-mod-mod, mod-add-div', mul_assoc}
use Rattle.std.proofs.lemmas.List.{take_more}
use Rattle.std.proofs.lemmas.List.Sums.{sum_by-cons, sum_by-append, sum_by_more}
use Rattle.gzlib.specs.Adler.{sum_of_sums, HasAdlerOf}
use Rattle.gzlib.specs.declared.adler.Adler32.{Adler32}

sum-append : (xs ys : List ℕ) → sum (xs ++ ys) ≡ sum xs + sum ys
sum-append xs ys = sum_by-append (λ x. x) xs ys

sum-cons : (x : ℕ) (xs : List ℕ) → sum (x ∷ xs) ≡ x + sum xs
sum-cons x xs = sum_by-cons (λ x. x) x xs

pub sum_more : (xs : List ℕ) (i : ℕ) → i < length xs → sum (take (i + 1) xs) ≡ sum (take i xs) + get_or xs i 0
sum_more xs i h = sum_by_more (λ x. x) xs i 0 h

pub sum_of_sums-append : (a : ℕ) (xs ys : List ℕ) → sum_of_sums a (xs ++ ys) ≡ sum_of_sums a xs + sum_of_sums (a + sum xs) ys
sum_of_sums-append a [] ys = rw (add-zero a) (omega arith)
sum_of_sums-append a (x ∷ xs) ys =
    let start : a + sum (x ∷ xs) ≡ a + x + sum xs = omega (arith, sum-cons x xs) in
    rw (start, sum_of_sums-append (a + x) xs ys) (omega arith)

-- the total after one more byte
pub sum_of_sums_more : (a : ℕ) (xs : List ℕ) (i : ℕ) → i < length xs
    → sum_of_sums a (take (i + 1) xs) ≡ sum_of_sums a (take i xs) + (a + sum (take i xs) + get_or xs i 0)
sum_of_sums_more a xs i h = rw (take_more xs i 0 h, sum_of_sums-append a (take i xs) (get_or xs i 0 ∷ [])) (omega arith)

-- a start value that is larger by `c` makes the total larger by `c` for each byte
sum_of_sums_larger : (a c : ℕ) (xs : List ℕ) → sum_of_sums (a + c) xs ≡ sum_of_sums a xs + length xs * c
sum_of_sums_larger a c [] = omega arith
sum_of_sums_larger a c (x ∷ xs) =
    let start : a + c + x ≡ a + x + c = omega arith in
    rw (start, sum_of_sums_larger (a + x) c xs) (omega arith)

-- reducing the start value modulo `m` does not change the total modulo `m`
sum_of_sums_reduced : (a m : ℕ) (xs : List ℕ) → sum_of_sums (a % m) xs % m ≡ sum_of_sums a xs % m
sum_of_sums_reduced a m xs =
    let parts : a % m + a / m * m ≡ a = mod-add-div' a m in
    let larger : sum_of_sums a xs ≡ sum_of_sums (a % m) xs + length xs * (a / m) * m =
    ap (λ (n : ℕ). sum_of_sums n xs) (sym parts) ∙ sum_of_sums_larger (a % m) (a / m * m) xs
    ∙ ap (λ (n : ℕ). sum_of_sums (a % m) xs + n) (sym (mul_assoc (length xs) (a / m) m)) in
    sym (rw larger (add-mul-mod_self_right (sum_of_sums (a % m) xs) (length xs * (a / m)) m))

-- the state for the bytes `m`, updated with the sums of `xs` and reduced, is the state for `m ++ xs`
pub HasAdlerOf-append : (s n : Adler32) (m xs : List ℕ) → HasAdlerOf s m → n.low ≡ (s.low + sum xs) % 65521
    → n.high ≡ (s.high + sum_of_sums s.low xs) % 65521 → HasAdlerOf n (m ++ xs)
HasAdlerOf-append s n m xs has low high =
    let sums : 1 + sum m + sum xs ≡ 1 + sum (m ++ xs) = omega (arith, sum-append m xs) in (
      low ∙ rw has.0 (mod-add-mod (1 + sum m) 65521 (sum xs)) ∙ ap (λ (k : ℕ). k % 65521) sums,
      high ∙ rw (has.0, has.1) (mod-add-mod (sum_of_sums 1 m) 65521 (sum_of_sums ((1 + sum m) % 65521) xs))
          ∙ sym (add-mod-mod (sum_of_sums 1 m) (sum_of_sums ((1 + sum m) % 65521) xs) 65521)
          ∙ ap (λ (k : ℕ). (sum_of_sums 1 m + k) % 65521) (sum_of_sums_reduced (1 + sum m) 65521 xs)
          ∙ add-mod-mod (sum_of_sums 1 m) (sum_of_sums (1 + sum m) xs) 65521
          ∙ ap (λ (k : ℕ). k % 65521) (sym (sum_of_sums-append 1 m xs)),
    )
