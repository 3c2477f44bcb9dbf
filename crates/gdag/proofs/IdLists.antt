-- Lists of ids: the ids that a list contains, and the ids of another list that are new to it.
use Rattle.std.proofs.Common.{◌≡◌, ◌⊎◌, ℕ, zero, suc, Bool, true, false, true≢false, cond, ◌||◌, List, [], ◌∷◌, ◌++◌, Contains, flat_map, bytes_eq, refl, sym, ap, ap₂, subst, ◌∙◌, inl, inr, append_assoc, append-nil, if◌then◌else◌, arith}
use Rattle.std.specs.List.{list_any, IsDistinct}
use Rattle.std.proofs.lemmas.Cmp.{nat_list_eq_equiv}
use Rattle.std.proofs.lemmas.Slice.Eq.{bytes_eq-Decides}
use Rattle.std.proofs.lemmas.List.Elements.{Contains-append_left, Contains-append_right, Contains-append_cases, Contains-push_cases}
use Rattle.std.proofs.lemmas.Map.Keys.{IsDistinct-push}
use Rattle.std.proofs.lemmas.Map.Views.{Contains-from_any, list_any-from_Contains}
use Rattle.indexmap.specs.IndexSet.{insert_key}
use Rattle.gdag.specs.Levels.{is_in, new_ids}

-- ---- the ids in a list

-- a test is true or false
pub either_way : {P : Type 0} → (b : Bool) → (b ≡ true → P) → (b ≡ false → P) → P
either_way true t f = t refl
either_way false t f = f refl

pub nothing_in_nil : {X : Type 0} → (a : X) → Contains [] a → {P : Type 0} → P
nothing_in_nil a h = absurd (omega (arith, h.1))

pub contains_head : {X : Type 0} → (x : X) (xs : List X) → Contains (x ∷ xs) x
contains_head x xs = (0, omega arith, refl)

pub contains_tail : {X : Type 0} → (x : X) (xs : List X) (a : X) → Contains xs a → Contains (x ∷ xs) a
contains_tail x xs a h = Contains-append_right (x ∷ []) xs a h

-- a list of one element contains no other element
pub only_one : {X : Type 0} → (x a : X) → Contains (x ∷ []) a → a ≡ x
only_one x a (zero, inside, is) = sym is
only_one x a (suc k, inside, is) = absurd (omega (arith, inside))

pub contains_cases : {X : Type 0} → (x : X) (xs : List X) (a : X) → Contains (x ∷ xs) a → (x ≡ a) ⊎ Contains xs a
contains_cases x xs a (zero, h, e) = inl e
contains_cases x xs a (suc k, h, e) = inr (k, omega (arith, h), e)

is_in-any : (ids : List (List ℕ)) (a : List ℕ) → is_in ids a ≡ list_any (bytes_eq a) ids
is_in-any [] a = refl
is_in-any (b ∷ ids) a = ap₂ (λ x y. x || y) (nat_list_eq_equiv.symm b a) (is_in-any ids a)

pub any_from_contains : (ids : List (List ℕ)) (a : List ℕ) → Contains ids a → list_any (bytes_eq a) ids ≡ true
any_from_contains ids a h = list_any-from_Contains nat_list_eq_equiv a ids h

pub contains_from_any : (ids : List (List ℕ)) (a : List ℕ) → list_any (bytes_eq a) ids ≡ true → Contains ids a
contains_from_any ids a h = Contains-from_any (λ x y. (bytes_eq-Decides x y).0) a ids h

pub contains_from_in : (ids : List (List ℕ)) (a : List ℕ) → is_in ids a ≡ true → Contains ids a
contains_from_in ids a h = contains_from_any ids a (sym (is_in-any ids a) ∙ h)

pub in_from_contains : (ids : List (List ℕ)) (a : List ℕ) → Contains ids a → is_in ids a ≡ true
in_from_contains ids a h = is_in-any ids a ∙ any_from_contains ids a h

pub absent_from_in : (ids : List (List ℕ)) (a : List ℕ) → is_in ids a ≡ false → ¬ (Contains ids a)
absent_from_in ids a e h = true≢false (sym (in_from_contains ids a h) ∙ e)

-- an id is in a list, or it is not
pub in_or_not : (ids : List (List ℕ)) (a : List ℕ) → Contains ids a ⊎ ¬ (Contains ids a)
in_or_not ids a = either_way (is_in ids a) (λ e. inl (contains_from_in ids a e)) (λ e. inr (absent_from_in ids a e))

pub same_or_not : (a b : List ℕ) → (a ≡ b) ⊎ ¬ (a ≡ b)
same_or_not a b =
    either_way (bytes_eq a b) (λ e. inl ((bytes_eq-Decides a b).0 e)) (λ e. inr (λ h. true≢false (sym ((bytes_eq-Decides a b).1 h) ∙ e)))

-- ---- the new ids

pub new_ids-old : (s : List (List ℕ)) (x : List ℕ) (xs : List (List ℕ)) → is_in s x ≡ true → new_ids s (x ∷ xs) ≡ new_ids s xs
new_ids-old s x xs e = ap (λ b. cond b (new_ids s xs) (x ∷ new_ids (s ++ x ∷ []) xs)) e

pub new_ids-new : (s : List (List ℕ)) (x : List ℕ) (xs : List (List ℕ)) → is_in s x ≡ false → new_ids s (x ∷ xs) ≡ x ∷ new_ids (s ++ x ∷ []) xs
new_ids-new s x xs e = ap (λ b. cond b (new_ids s xs) (x ∷ new_ids (s ++ x ∷ []) xs)) e

-- the list `s`, followed by the ids of `xs` that are new to `s`
abbrev pub with_new : List (List ℕ) → List (List ℕ) → List (List ℕ)
with_new s xs = s ++ new_ids s xs

pub with_new-old : (s : List (List ℕ)) (x : List ℕ) (xs : List (List ℕ)) → is_in s x ≡ true → with_new s (x ∷ xs) ≡ with_new s xs
with_new-old s x xs e = ap (λ l. s ++ l) (new_ids-old s x xs e)

pub with_new-new : (s : List (List ℕ)) (x : List ℕ) (xs : List (List ℕ)) → is_in s x ≡ false → with_new s (x ∷ xs) ≡ with_new (s ++ x ∷ []) xs
with_new-new s x xs e = ap (λ l. s ++ l) (new_ids-new s x xs e) ∙ (simp append_assoc)

pub with_new-distinct : (s xs : List (List ℕ)) → IsDistinct bytes_eq s → IsDistinct bytes_eq (with_new s xs)
with_new-distinct s [] d = subst (λ (l : List (List ℕ)). IsDistinct bytes_eq l) (sym (append-nil s)) d
with_new-distinct s (x ∷ xs) d =
    either_way (is_in s x)
    (λ e. subst (λ (l : List (List ℕ)). IsDistinct bytes_eq l) (sym (with_new-old s x xs e)) (with_new-distinct s xs d))
    (λ e. subst (λ (l : List (List ℕ)). IsDistinct bytes_eq l) (sym (with_new-new s x xs e))
    (with_new-distinct (s ++ x ∷ []) xs (IsDistinct-push nat_list_eq_equiv s x d (sym (is_in-any s x) ∙ e))))

-- a new id is an id of `xs` and is not in the list `s`
pub new_ids-from : (s xs : List (List ℕ)) (a : List ℕ) → Contains (new_ids s xs) a → Contains xs a × ¬ (Contains s a)
new_ids-from s [] a h = nothing_in_nil a h
new_ids-from s (x ∷ xs) a h =
    either_way (is_in s x)
    (λ e. let r = new_ids-from s xs a (subst (λ (l : List (List ℕ)). Contains l a) (new_ids-old s x xs e) h) in (contains_tail x xs a r.0, r.1))
    (λ e. elim (contains_cases x (new_ids (s ++ x ∷ []) xs) a (subst (λ (l : List (List ℕ)). Contains l a) (new_ids-new s x xs e) h)) [
      | inl same ↦ subst (λ (b : List ℕ). Contains (x ∷ xs) b × ¬ (Contains s b)) same (contains_head x xs, absent_from_in s x e)
      | inr later ↦ let r = new_ids-from (s ++ x ∷ []) xs a later in (contains_tail x xs a r.0, λ c. r.1 (Contains-append_left s (x ∷ []) a c))
    ])

-- each id of `xs` that is not in the list `s` is a new id
pub new_ids-has : (s xs : List (List ℕ)) (a : List ℕ) → Contains xs a → ¬ (Contains s a) → Contains (new_ids s xs) a
new_ids-has s [] a h out = nothing_in_nil a h
new_ids-has s (x ∷ xs) a h out =
    either_way (is_in s x)
    (λ e. subst (λ (l : List (List ℕ)). Contains l a) (sym (new_ids-old s x xs e)) (elim (contains_cases x xs a h) [
      | inl same ↦ absurd (out (subst (λ (b : List ℕ). Contains s b) same (contains_from_in s x e)))
      | inr later ↦ new_ids-has s xs a later out
    ]))
    (λ e. subst (λ (l : List (List ℕ)). Contains l a) (sym (new_ids-new s x xs e)) (elim (same_or_not x a) [
      | inl same ↦ subst (λ (b : List ℕ). Contains (x ∷ new_ids (s ++ x ∷ []) xs) b) same (contains_head x (new_ids (s ++ x ∷ []) xs))
      | inr other ↦ contains_tail x (new_ids (s ++ x ∷ []) xs) a (new_ids-has (s ++ x ∷ []) xs a
          (elim (contains_cases x xs a h) [ inl same ↦ absurd (other same) | inr later ↦ later ])
          (λ c. elim (Contains-push_cases s x a c) [ inl before ↦ out before | inr same ↦ other same ]))
    ]))

-- the new ids of two joined lists: first those of `xs`, then those of `ys`
pub new_ids-append : (s xs ys : List (List ℕ)) → new_ids s (xs ++ ys) ≡ new_ids s xs ++ new_ids (with_new s xs) ys
new_ids-append s [] ys = ap (λ l. new_ids l ys) (sym (append-nil s))
new_ids-append s (x ∷ xs) ys =
    let whole : List (List ℕ) → List (List ℕ) = λ l. l ++ new_ids (s ++ l) ys in
    let later = s ++ x ∷ [] in
    either_way (is_in s x)
    (λ e. new_ids-old s x (xs ++ ys) e ∙ new_ids-append s xs ys ∙ ap whole (sym (new_ids-old s x xs e)))
    (λ e. new_ids-new s x (xs ++ ys) e
    ∙ ap (λ l. x ∷ l) (new_ids-append later xs ys)
    ∙ ap (λ l. x ∷ (new_ids later xs ++ new_ids l ys)) (append_assoc s (x ∷ []) (new_ids later xs))
    ∙ ap whole (sym (new_ids-new s x xs e)))

-- inserting one more id into a list as a set
pub with_new-insert : (s : List (List ℕ)) (x : List ℕ) (xs : List (List ℕ)) → with_new (insert_key bytes_eq s x) xs ≡ with_new s (x ∷ xs)
with_new-insert s x xs =
    let grown : Bool → List (List ℕ) = λ b. with_new (if b then s else s ++ x ∷ []) xs in
    either_way (is_in s x)
    (λ e. ap grown (sym (is_in-any s x) ∙ e) ∙ sym (with_new-old s x xs e))
    (λ e. ap grown (sym (is_in-any s x) ∙ e) ∙ sym (with_new-new s x xs e))

-- ---- the ids that come from each id of a list

pub flat_map-has : {X Y : Type 0} → (f : X → List Y) (xs : List X) (b : X) (a : Y) → Contains xs b → Contains (f b) a → Contains (flat_map f xs) a
flat_map-has f [] b a h given = nothing_in_nil b h
flat_map-has {X} {Y} f (x ∷ xs) b a h given =
    elim (contains_cases x xs b h) [
      | inl same ↦ Contains-append_left (f x) (flat_map f xs) a (subst (λ (y : X). Contains (f y) a) (sym same) given)
      | inr later ↦ Contains-append_right (f x) (flat_map f xs) a (flat_map-has f xs b a later given)
    ]

pub flat_map-from : {X Y : Type 0} → (f : X → List Y) (xs : List X) (a : Y) → Contains (flat_map f xs) a → (b : X) × Contains xs b × Contains (f b) a
flat_map-from f [] a h = nothing_in_nil a h
flat_map-from f (x ∷ xs) a h =
    elim (Contains-append_cases (f x) (flat_map f xs) a h) [
      | inl given ↦ (x, contains_head x xs, given)
      | inr later ↦ let r = flat_map-from f xs a later in (r.0, contains_tail x xs r.0 r.1, r.2)
    ]
