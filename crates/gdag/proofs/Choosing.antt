-- Selection of the elements of a list that satisfy a property.
use Rattle.std.proofs.Common.{◌≡◌, ◌⊎◌, inl, inr, ℕ, zero, suc, ◌≤◌, Bool, true, false, true≢false, cond, List, [], ◌∷◌, ◌++◌, length, filter, get_or, All, Contains, Some, refl, sym, ap, subst, ◌∙◌, arith}
use Rattle.std.specs.List.{slice_get, IsDistinct, AllByRecursion}
use Rattle.std.proofs.lemmas.Option.{same_Some, none-some}
use Rattle.std.proofs.lemmas.List.Elements.{All-contains, Contains-append_right, Contains-get_or}
use Rattle.gdag.specs.Selecting.{Selects, none, keep, skip}
use Rattle.gdag.proofs.IdLists.{either_way, nothing_in_nil, contains_head, contains_tail, contains_cases}

-- an element is selected, or does not satisfy P
pub chosen_or_not : {X : Type 0} (P : X → Type 0) (xs ys : List X) (k : ℕ) (x : X) → Selects P xs ys → slice_get xs k ≡ Some x → Contains ys x ⊎ ¬ (P x)
chosen_or_not P xs ys k x none at = absurd (none-some x at)
chosen_or_not {X} P xs ys zero x (keep {x = first} {ys = more} p rest) at =
    inl (0, omega arith, same_Some first x at)
chosen_or_not {X} P xs ys (suc k) x (keep {x = first} {xs = others} {ys = more} p rest) at =
    elim (chosen_or_not P others more k x rest at) [
      | inl among ↦ inl (Contains-append_right (first ∷ []) more x among)
      | inr left_out ↦ inr left_out
    ]
chosen_or_not {X} P xs ys zero x (skip {x = first} left_out rest) at = inr (subst (λ y. ¬ (P y)) (same_Some first x at) left_out)
chosen_or_not {X} P xs ys (suc k) x (skip {x = first} {xs = others} left_out rest) at = chosen_or_not P others ys k x rest at

-- the selected list is unique
pub one_choice : {X : Type 0} (P : X → Type 0) (xs ys zs : List X) → Selects P xs ys → Selects P xs zs → ys ≡ zs
one_choice P xs ys zs none none = refl
one_choice P xs ys zs (keep {x = x} {xs = others} {ys = more} p rest) (keep {ys = less} q last) = ap (λ l. x ∷ l) (one_choice P others more less rest last)
one_choice P xs ys zs (keep p rest) (skip left_out last) = absurd (left_out p)
one_choice P xs ys zs (skip left_out rest) (keep p last) = absurd (left_out p)
one_choice P xs ys zs (skip {xs = others} left_out rest) (skip other last) = one_choice P others ys zs rest last

pub chosen_few : {X : Type 0} (P : X → Type 0) (xs ys : List X) → Selects P xs ys → length ys ≤ length xs
chosen_few P xs ys none = omega arith
chosen_few P xs ys (keep {xs = others} {ys = more} p rest) = let l = chosen_few P others more rest in omega arith
chosen_few P xs ys (skip {xs = others} left_out rest) = let l = chosen_few P others ys rest in omega arith

-- selecting from a list with one more element that satisfies P
pub selects_keep : {X : Type 0} (P : X → Type 0) (xs ys : List X) (x : X) → Selects P xs ys → P x → Selects P (xs ++ x ∷ []) (ys ++ x ∷ [])
selects_keep P xs ys x none here = keep here none
selects_keep P xs ys x (keep {xs = others} {ys = more} p rest) here = keep p (selects_keep P others more x rest here)
selects_keep P xs ys x (skip {xs = others} {ys = more} out rest) here = skip out (selects_keep P others more x rest here)

pub selects_skip : {X : Type 0} (P : X → Type 0) (xs ys : List X) (x : X) → Selects P xs ys → ¬ (P x) → Selects P (xs ++ x ∷ []) ys
selects_skip P xs ys x none out = skip out none
selects_skip P xs ys x (keep {xs = others} {ys = more} p rest) out = keep p (selects_skip P others more x rest out)
selects_skip P xs ys x (skip {xs = others} {ys = more} left_out rest) out = skip left_out (selects_skip P others more x rest out)

-- ---- the selected elements

module _ {X : Type 0} (P : X → Type 0) where
  pub select_from : {xs ys : List X} → Selects P xs ys → (a : X) → Contains ys a → P a × Contains xs a
  select_from none a h = nothing_in_nil a h
  select_from (keep {x = x} {xs = xs} {ys = ys} p s) a h =
      elim (contains_cases x ys a h) [
        | inl same ↦ subst (λ (b : X). P b × Contains (x ∷ xs) b) same (p, contains_head x xs)
        | inr later ↦ let r = select_from s a later in (r.0, contains_tail x xs a r.1)
      ]
  select_from (skip {x = x} {xs = xs} p s) a h = let r = select_from s a h in (r.0, contains_tail x xs a r.1)

  pub select_has : {xs ys : List X} → Selects P xs ys → (a : X) → P a → Contains xs a → Contains ys a
  select_has none a holds h = h
  select_has (keep {x = x} {xs = xs} {ys = ys} p s) a holds h =
      elim (contains_cases x xs a h) [
        | inl same ↦ subst (λ (b : X). Contains (x ∷ ys) b) same (contains_head x ys)
        | inr later ↦ contains_tail x ys a (select_has s a holds later)
      ]
  select_has (skip {x = x} {xs = xs} p s) a holds h =
      elim (contains_cases x xs a h) [
        | inl same ↦ absurd (p (subst P (sym same) holds))
        | inr later ↦ select_has s a holds later
      ]

  -- if Q holds for each element of a list, Q holds for each selected element
  pub chosen_all : (Q : X → Type 0) (xs ys : List X) → Selects P xs ys → All Q xs → All Q ys
  chosen_all Q xs ys chosen all k d inside =
      All-contains Q xs (get_or ys k d) all (select_from chosen (get_or ys k d) (Contains-get_or ys k d inside)).1

  select_each : (Q : X → Type 0) → {xs ys : List X} → Selects P xs ys → AllByRecursion Q xs → AllByRecursion Q ys
  select_each Q none h = tt
  select_each Q (keep p s) h = (h.0, select_each Q s h.1)
  select_each Q (skip p s) h = select_each Q s h.1

  pub select_distinct : (e : X → X → Bool) → {xs ys : List X} → Selects P xs ys → IsDistinct e xs → IsDistinct e ys
  unfolding IsDistinct
  select_distinct e none h = tt
  select_distinct e (keep {x = x} p s) h = (select_each (λ y. e x y ≡ false) s h.0, select_distinct e s h.1)
  select_distinct e (skip p s) h = select_distinct e s h.1

-- ---- selection by equivalent properties

pub selects_same : {X : Type 0} (P Q : X → Type 0) (xs ys : List X) → ((x : X) → P x → Q x) → ((x : X) → Q x → P x) → Selects P xs ys → Selects Q xs ys
selects_same P Q xs ys to back none = none
selects_same P Q xs ys to back (keep {x = x} {xs = others} {ys = more} p rest) = keep (to x p) (selects_same P Q others more to back rest)
selects_same P Q xs ys to back (skip {x = x} {xs = others} left_out rest) = skip (λ q. left_out (back x q)) (selects_same P Q others ys to back rest)

selects_none : {X : Type 0} (P : X → Type 0) (xs : List X) → ((x : X) → Contains xs x → ¬ (P x)) → Selects P xs []
selects_none P [] out = none
selects_none P (x ∷ xs) out = skip (out x (contains_head x xs)) (selects_none P xs (λ y among. out y (contains_tail x xs y among)))

pub selects_before : {X : Type 0} (P : X → Type 0) (xs ys more : List X) → ((x : X) → Contains more x → ¬ (P x)) → Selects P xs ys → Selects P (xs ++ more) ys
selects_before P xs ys more out none = selects_none P more out
selects_before P xs ys more out (keep {xs = others} {ys = chosen} p rest) = keep p (selects_before P others chosen more out rest)
selects_before P xs ys more out (skip {xs = others} left_out rest) = skip left_out (selects_before P others ys more out rest)

-- ---- selection by a filter

pub filter_selects : {X : Type 0} → (P : X → Type 0) (p : X → Bool) → ((x : X) → p x ≡ true → P x) → ((x : X) → P x → p x ≡ true) → (xs : List X) → Selects P xs (filter p xs)
filter_selects P p to back [] = none
filter_selects {X} P p to back (x ∷ xs) =
    let later = filter_selects P p to back xs in
    either_way (p x)
    (λ e. subst (λ (b : Bool). Selects P (x ∷ xs) (cond b (x ∷ filter p xs) (filter p xs))) (sym e) (keep (to x e) later))
    (λ e. subst (λ (b : Bool). Selects P (x ∷ xs) (cond b (x ∷ filter p xs) (filter p xs))) (sym e) (skip (λ h. true≢false (sym (back x h) ∙ e)) later))
