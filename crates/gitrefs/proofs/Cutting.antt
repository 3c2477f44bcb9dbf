-- Splitting texts into parts.
use Rattle.std.proofs.Common.{◌≡◌, ◌≢◌, ℕ, ◌+◌, ◌<◌, Bool, true, false, nat_eq, inl, inr, List, [], ◌∷◌, ◌++◌, length, take, drop, get_or, All, Option, None, Some, MatchOption, Err, Ok, refl, sym, ap, subst, ◌∙◌, arith}
use Rattle.std.specs.Prelude.{slice_index}
use Rattle.std.specs.Borrow.{Bor}
use Rattle.std.specs.List.{position, position_or_len}
use Rattle.std.specs.Cmp.Lexicographic.{pointwise}
use Rattle.std.proofs.lemmas.Bool.{cases_lt, cond_above, cond_below, false≢true, not-false, not-true}
use Rattle.std.proofs.lemmas.List.{drop_more, get_or-take, length-take, take-append-drop, take-append-le, take_all}
use Rattle.std.proofs.lemmas.List.Elements.{All-head, All-tail}
use Rattle.std.proofs.lemmas.List.Sums.{fails_before_first, passes_at_first}
use Rattle.std.proofs.lemmas.Slice.Eq.{bytes_eq-Decides}
use Rattle.gname.specs.Ids.{Id, IsIdTextOf, ReadsId}
use Rattle.gname.specs.Laws.{TextsHaveOneReading}
use Rattle.gname.specs.declared.formats.Format.TheVariants.{Sha1}
use Rattle.gname.specs.declared.ids.OidFault.{OidFault}
use Rattle.gitrefs.specs.Ids.{BeginsWithId}
use Rattle.gitrefs.specs.Spaces.{BeginsWithoutSpace, EndsWord, IsBlank, is_other, is_space}

-- if two texts are equal and their first parts have the same length, both parts are equal
pub same_fronts : {X : Type 0} (a b x y : List X) → length a ≡ length b → a ++ x ≡ b ++ y → (a ≡ b) × (x ≡ y)
same_fronts [] [] x y long is = (refl, is)
same_fronts [] (c ∷ b) x y long is = absurd (omega (arith, long))
same_fronts (c ∷ a) [] x y long is = absurd (omega (arith, long))
same_fronts (c ∷ a) (d ∷ b) x y long is =
    let n : length a ≡ length b = omega (arith, long) in
    let heads : c ≡ d = cc in
    let tails : a ++ x ≡ b ++ y = cc in
    let rest = same_fronts a b x y n tails in
    let front = rest.0 in
    (cc, rest.1)

-- a text can be split at the first byte `s` in only one way
pub cut_once : (s : ℕ) (x y u v : List ℕ) → All (λ b. b ≢ s) x → All (λ b. b ≢ s) y → x ++ s ∷ u ≡ y ++ s ∷ v → (x ≡ y) × (u ≡ v)
cut_once s [] [] u v one two is = (refl, cc)
cut_once s [] (c ∷ y) u v one two is =
    let same : s ≡ c = cc in absurd (All-head (λ b. b ≢ s) c y two (sym same))
cut_once s (c ∷ x) [] u v one two is =
    let same : c ≡ s = cc in absurd (All-head (λ b. b ≢ s) c x one same)
cut_once s (c ∷ x) (d ∷ y) u v one two is =
    let heads : c ≡ d = cc in
    let tails : x ++ s ∷ u ≡ y ++ s ∷ v = cc in
    let rest = cut_once s x y u v (All-tail (λ b. b ≢ s) c x one) (All-tail (λ b. b ≢ s) d y two) tails in
    let front = rest.0 in
    (cc, rest.1)

-- the text is empty, or the test `p` of its first byte does not have the result `c`
abbrev pub Stops : (ℕ → Bool) → Bool → List ℕ → Type 0
Stops p c text = (first : ℕ) (more : List ℕ) → text ≡ first ∷ more → p first ≢ c

-- a text has only one longest prefix of bytes whose test has the result `c`, and only one rest after this prefix
pub span_once : (p : ℕ → Bool) (c : Bool) (x y u v : List ℕ) → All (λ b. p b ≡ c) x → All (λ b. p b ≡ c) y → Stops p c u → Stops p c v → x ++ u ≡ y ++ v → (x ≡ y) × (u ≡ v)
span_once p c [] [] u v one two ends stops is = (refl, is)
span_once p c [] (b ∷ y) u v one two ends stops is = absurd (ends b (y ++ v) is (All-head (λ b. p b ≡ c) b y two))
span_once p c (b ∷ x) [] u v one two ends stops is = absurd (stops b (x ++ u) (sym is) (All-head (λ b. p b ≡ c) b x one))
span_once p c (b ∷ x) (d ∷ y) u v one two ends stops is =
    let heads : b ≡ d = cc in
    let tails : x ++ u ≡ y ++ v = cc in
    let rest = span_once p c x y u v (All-tail (λ b. p b ≡ c) b x one) (All-tail (λ b. p b ≡ c) d y two) ends stops tails in
    let front = rest.0 in
    (cc, rest.1)

-- ---- the first byte of a given value

at_front : (front : List ℕ) (b : ℕ) (rest : List ℕ) → get_or (front ++ b ∷ rest) (length front) 0 ≡ b
at_front [] b rest = refl
at_front (c ∷ front) b rest = at_front front b rest

front_inside : (front : List ℕ) (b : ℕ) (rest : List ℕ) → length front < length (front ++ b ∷ rest)
front_inside [] b rest = omega arith
front_inside (c ∷ front) b rest = let h = front_inside front b rest in omega arith

pub found_first : (text front : List ℕ) (b : ℕ) (rest : List ℕ) → text ≡ front ++ b ∷ rest → (length front < length text) × (slice_index text (length front) ≡ b)
found_first text front b rest is = (
  subst (λ l. length front < length l) (sym is) (front_inside front b rest),
  ap (λ l. get_or l (length front) 0) is ∙ at_front front b rest,
)

-- ---- the first byte that passes a test

-- the index of the first byte that passes the test `p`, or `None` if no byte passes
abbrev pub FoundAt : (ℕ → Bool) → List ℕ → Option ℕ → Type 0
FoundAt p text r = MatchOption r (All (λ b. p b ≡ false) text)
    (λ end. (end < length text) × (p (get_or text end 0) ≡ true) × All (λ b. p b ≡ false) (take end text))

pub position_parts : (p : ℕ → Bool) (text : List ℕ) (r : Option ℕ) → r ≡ position p text → FoundAt p text r
position_parts p text r is =
    let n : ℕ = position_or_len p text in
    elim (cases_lt n (length text)) [
      | inl inside ↦
          let found : Some n ≡ position p text = cond_below n (length text) (Some n) None inside in
          subst (FoundAt p text) (found ∙ sym is) (
            inside,
            passes_at_first p text 0 inside,
            λ k d low.
                let below : k < n = omega (arith, length-take n text) in
                subst (λ b. p b ≡ false) (sym (get_or-take n text k d below)) (fails_before_first p text k d below),
          )
      | inr past ↦
          let none : None ≡ position p text = cond_above n (length text) (Some n) None None past refl in
          subst (FoundAt p text) (none ∙ sym is) (λ k d low. fails_before_first p text k d (omega arith))
    ]

pub ends_at : (text : List ℕ) (end : ℕ) → end < length text → is_space (get_or text end 0) ≡ true → EndsWord (drop end text)
ends_at text end inside space = inr (get_or text end 0, drop (end + 1) text, drop_more text end 0 inside, space)

pub begins_at : (text : List ℕ) (end : ℕ) → end < length text → is_other (get_or text end 0) ≡ true → BeginsWithoutSpace (drop end text)
begins_at text end inside other first more is =
    let parts = drop_more text end 0 inside in
    let same : get_or text end 0 ≡ first = cc in
    subst (λ b. is_space b ≡ false) same (not-true (is_space (get_or text end 0)) other)

pub blank_from : (text : List ℕ) → All (λ b. is_other b ≡ false) text → IsBlank text
blank_from text h = λ k d low. not-false (is_space (get_or text k d)) (h k d low)

-- ---- a word at the start of a text

take_front : (a b : List ℕ) → take (length a) (a ++ b) ≡ a
take_front a b = take-append-le (length a) a b (omega arith) ∙ take_all (length a) a (omega arith)

pub strip_cases : (word text : List ℕ) (r : Option (Bor (List ℕ)))
    → MatchOption r (pointwise nat_eq (take (length word) text) word ≡ false) (λ x. (pointwise nat_eq (take (length word) text) word ≡ true) × (x.now ≡ drop (length word) text) × (length x.now + length word ≡ length text))
    → MatchOption r ((rest : List ℕ) → ¬ (text ≡ word ++ rest)) (λ rest. text ≡ word ++ rest.now)
strip_cases word text None h = λ rest is. false≢true (sym h ∙ (bytes_eq-Decides (take (length word) text) word).1 (ap (take (length word)) is ∙ take_front word rest))
strip_cases word text (Some x) h =
    let front = (bytes_eq-Decides (take (length word) text) word).0 h.0 in
    sym (take-append-drop (length word) text) ∙ ap (λ l. l ++ drop (length word) text) front ∙ ap (λ l. word ++ l) (sym h.1)

-- ---- an id

module _ (text digits rest : List ℕ) (long : length digits ≡ 40) (parts : text ≡ digits ++ rest) where
  pub no_id : (fault : OidFault) → TextsHaveOneReading → ReadsId Sha1 digits (Err fault) → (id : Id) (after : List ℕ) → ¬ (BeginsWithId text id after)
  no_id fault law refused id after b =
      let fronts = same_fronts digits b.digits rest after (long ∙ sym b.spells.long) (sym parts ∙ b.parts) in
      let P : List ℕ → Type 0 = λ d. IsIdTextOf Sha1 d id in
      let spells = subst P (sym fronts.0) b.spells in
      let reads = (law Sha1 digits).0 id spells in
      let same = (law Sha1 digits).1 (Err fault) (Ok id) refused reads in
      cc

-- a text begins with the digits of at most one id
pub id_once : (text : List ℕ) (a b : Id) (r q : List ℕ) → BeginsWithId text a r → BeginsWithId text b q → (a ≡ b) × (r ≡ q)
id_once text a b r q one two =
    let parts = same_fronts one.digits two.digits r q (one.spells.long ∙ sym two.spells.long) (sym one.parts ∙ two.parts) in
    let digits = parts.0 in let rests = parts.1 in
    let left = one.spells.spells in let right = two.spells.spells in
    let ids : a ≡ b = cc in
    (ids, rests)
