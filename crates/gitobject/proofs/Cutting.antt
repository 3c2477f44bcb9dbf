-- Splitting texts into parts.
use Rattle.std.proofs.Common.{◌≡◌, ◌≢◌, ℕ, ◌+◌, ◌<◌, true, false, nat_eq, List, [], ◌∷◌, ◌++◌, length, take, drop, get_or, All, Option, None, Some, MatchOption, refl, sym, ap, subst, ◌∙◌, arith}
use Rattle.std.specs.Prelude.{slice_index}
use Rattle.std.specs.Borrow.{Bor}
use Rattle.std.specs.Cmp.Lexicographic.{pointwise}
use Rattle.std.proofs.lemmas.Bool.{false≢true}
use Rattle.std.proofs.lemmas.List.{take-append-drop, take-append-le, take_all}
use Rattle.std.proofs.lemmas.List.Elements.{All-head, All-tail}
use Rattle.std.proofs.lemmas.Slice.Eq.{bytes_eq-Decides}

-- if two texts are equal and their first parts have the same length, both parts are equal
pub same_fronts : {X : Type 0} (a b x y : List X) → length a ≡ length b → a ++ x ≡ b ++ y → (a ≡ b) × (x ≡ y)
same_fronts [] [] x y long is = (refl, is)
same_fronts [] (c ∷ b) x y long is = absurd (omega (arith, long))
same_fronts (c ∷ a) [] x y long is = absurd (omega (arith, long))
same_fronts (c ∷ a) (d ∷ b) x y long is =
    let n : length a ≡ length b = omega (arith, long) in
    let heads : c ≡ d = cc in
    let tails : a ++ x ≡ b ++ y = cc in
    let rest = same_fronts a b x y n tails in
    let front = rest.0 in
    (cc, rest.1)

-- a text can be split at the first byte `s` in only one way
pub cut_once : (s : ℕ) (x y u v : List ℕ) → All (λ b. b ≢ s) x → All (λ b. b ≢ s) y → x ++ s ∷ u ≡ y ++ s ∷ v → (x ≡ y) × (u ≡ v)
cut_once s [] [] u v one two is = (refl, cc)
cut_once s [] (c ∷ y) u v one two is =
    let same : s ≡ c = cc in absurd (All-head (λ b. b ≢ s) c y two (sym same))
cut_once s (c ∷ x) [] u v one two is =
    let same : c ≡ s = cc in absurd (All-head (λ b. b ≢ s) c x one same)
cut_once s (c ∷ x) (d ∷ y) u v one two is =
    let heads : c ≡ d = cc in
    let tails : x ++ s ∷ u ≡ y ++ s ∷ v = cc in
    let rest = cut_once s x y u v (All-tail (λ b. b ≢ s) c x one) (All-tail (λ b. b ≢ s) d y two) tails in
    let front = rest.0 in
    (cc, rest.1)

-- ---- the first byte of a given value

at_front : (front : List ℕ) (b : ℕ) (rest : List ℕ) → get_or (front ++ b ∷ rest) (length front) 0 ≡ b
at_front [] b rest = refl
at_front (c ∷ front) b rest = at_front front b rest

front_inside : (front : List ℕ) (b : ℕ) (rest : List ℕ) → length front < length (front ++ b ∷ rest)
front_inside [] b rest = omega arith
front_inside (c ∷ front) b rest = let h = front_inside front b rest in omega arith

pub found_first : (text front : List ℕ) (b : ℕ) (rest : List ℕ) → text ≡ front ++ b ∷ rest → (length front < length text) × (slice_index text (length front) ≡ b)
found_first text front b rest is = (
  subst (λ l. length front < length l) (sym is) (front_inside front b rest),
  ap (λ l. get_or l (length front) 0) is ∙ at_front front b rest,
)

-- ---- a word at the start of a text

take_front : (a b : List ℕ) → take (length a) (a ++ b) ≡ a
take_front a b = take-append-le (length a) a b (omega arith) ∙ take_all (length a) a (omega arith)

pub strip_cases : (word text : List ℕ) (r : Option (Bor (List ℕ)))
    → MatchOption r (pointwise nat_eq (take (length word) text) word ≡ false) (λ x. (pointwise nat_eq (take (length word) text) word ≡ true) × (x.now ≡ drop (length word) text) × (length x.now + length word ≡ length text))
    → MatchOption r ((rest : List ℕ) → ¬ (text ≡ word ++ rest)) (λ rest. text ≡ word ++ rest.now)
strip_cases word text None h = λ rest is. false≢true (sym h ∙ (bytes_eq-Decides (take (length word) text) word).1 (ap (take (length word)) is ∙ take_front word rest))
strip_cases word text (Some x) h =
    let front = (bytes_eq-Decides (take (length word) text) word).0 h.0 in
    sym (take-append-drop (length word) text) ∙ ap (λ l. l ++ drop (length word) text) front ∙ ap (λ l. word ++ l) (sym h.1)
