-- The uniqueness and the ids of an offer, the common ids, and the distinct ids of a list.
use Rattle.std.proofs.Common.{◌≡◌, ◌↔◌, is_some, ℕ, zero, suc, ◌≤◌, Bool, false, List, [], ◌∷◌, ◌++◌, length, take, drop, Contains, bytes_eq, sym, ap, subst, ◌∙◌, inl, inr, eq-or-lt_of_le, append-nil, length-take, take-append-drop, take_all, leb-true, leb-false, leb, arith}
use Rattle.std.specs.List.{IsDistinct, AllByRecursion}
use Rattle.std.proofs.lemmas.List.Elements.{Contains-append_left}
use Rattle.gobject.specs.declared.node.Entry.{Entry}
use Rattle.gobject.specs.Objects.{node_at}
use Rattle.gdag.specs.Graphs.{Holds}
use Rattle.gdag.specs.Laws.{AreDistinct}
use Rattle.gdag.specs.Levels.{distinct_of, level, levels_below, new_ids, AreLevels}
use Rattle.gdag.specs.Selecting.{Selects}
use Rattle.gdag.specs.Offer.{MayBeOffered, IsExact}
use Rattle.gdag.specs.Reach.{SomeReaches}
use Rattle.gdag.specs.Walks.{common_of}
use Rattle.gdag.proofs.Choosing.{filter_selects, one_choice, select_from, select_has, select_distinct}
use Rattle.gdag.proofs.IdLists.{either_way, nothing_in_nil, new_ids-append, new_ids-from, new_ids-has, with_new-distinct}
use Rattle.gdag.proofs.LevelLaws.{levels_once, levels_stay}
use Rattle.gdag.proofs.LevelReach.{in_reached, reached_in}

each_take : {X : Type 0} → (Q : X → Type 0) (n : ℕ) (xs : List X) → AllByRecursion Q xs → AllByRecursion Q (take n xs)
each_take Q zero xs h = tt
each_take Q (suc n) [] h = tt
each_take Q (suc n) (x ∷ xs) h = (h.0, each_take Q n xs h.1)

distinct_take : {X : Type 0} → (e : X → X → Bool) (n : ℕ) (xs : List X) → IsDistinct e xs → IsDistinct e (take n xs)
unfolding IsDistinct
distinct_take e zero xs h = tt
distinct_take e (suc n) [] h = tt
distinct_take e (suc n) (x ∷ xs) h = (each_take (λ y. e x y ≡ false) n xs h.0, distinct_take e n xs h.1)

contains_from_take : {X : Type 0} → (n : ℕ) (xs : List X) (a : X) → Contains (take n xs) a → Contains xs a
contains_from_take {X} n xs a h =
    subst (λ (l : List X). Contains l a) (take-append-drop n xs) (Contains-append_left (take n xs) (drop n xs) a h)

-- ---- the levels before an empty level

module _ {A : Type 0} (g : List (Entry A)) (tips : List (List ℕ)) where
  same_above : (j k : ℕ) → j ≤ k → level g tips j ≡ [] → levels_below g tips k ≡ levels_below g tips j
  same_above j zero h e = let same : 0 ≡ j = omega arith in ap (λ i. levels_below g tips i) same
  same_above j (suc k) h e = elim (eq-or-lt_of_le h) [
    | inl same ↦ ap (λ i. levels_below g tips i) (sym same)
    | inr less ↦
        let below : j ≤ k = omega arith in
        ap (λ l. levels_below g tips k ++ l) (levels_stay g tips j k below e) ∙ append-nil (levels_below g tips k) ∙ same_above j k below e
  ]

  same_levels : (j k : ℕ) → level g tips j ≡ [] → level g tips k ≡ [] → levels_below g tips k ≡ levels_below g tips j
  same_levels j k e f =
      either_way (leb j k)
      (λ t. same_above j k (leb-true j k t) e)
      (λ t. sym (same_above k j (let far = leb-false j k t in omega arith) f))

  same_ids : (xs ys : List (List ℕ)) → AreLevels g tips xs → AreLevels g tips ys → xs ≡ ys
  same_ids xs ys x y = x.joined ∙ sym (same_levels x.count y.count x.last y.last) ∙ sym y.joined

  levels_distinct : (xs : List (List ℕ)) → AreLevels g tips xs → IsDistinct bytes_eq xs
  levels_distinct xs x = subst (IsDistinct bytes_eq) (sym x.joined) (levels_once g tips x.count)

  levels_reached : (xs : List (List ℕ)) (a : List ℕ) → AreLevels g tips xs → Contains xs a → SomeReaches g tips a
  levels_reached xs a x h = in_reached g tips x.count a (subst (λ (l : List (List ℕ)). Contains l a) x.joined h)

  reached_levels : (xs : List (List ℕ)) (a : List ℕ) → AreLevels g tips xs → SomeReaches g tips a → Contains xs a
  reached_levels xs a x reach = subst (λ (l : List (List ℕ)). Contains l a) (sym x.joined) (reached_in g tips x.count x.last a reach)

  pub offers_are_exact : (commons sent : List (List ℕ)) (n : ℕ) → IsExact g tips commons sent n
  offers_are_exact commons sent n = let P = MayBeOffered g commons sent in record {
    one = λ xs ys x y.
        x.first ∙ ap (λ l. take n l) (one_choice P x.ids x.choice y.choice x.chosen
        (subst (λ (l : List (List ℕ)). Selects P l y.choice) (same_ids y.ids x.ids y.levels x.levels) y.chosen))
        ∙ sym y.first;
    few = λ xs x. let long = ap length x.first in let cut = length-take n x.choice in omega arith;
    once = λ xs x.
        subst (λ (l : List (List ℕ)). IsDistinct bytes_eq l) (sym x.first) (distinct_take bytes_eq n x.choice
        (select_distinct P bytes_eq x.chosen (levels_distinct x.ids x.levels)));
    each = λ xs a x h.
        let in_all = contains_from_take n x.choice a (subst (λ (l : List (List ℕ)). Contains l a) x.first h) in
        let r = select_from P x.chosen a in_all in
        (r.0, levels_reached x.ids a x.levels r.1);
    all = λ xs a x less may reach.
        let long = ap length x.first in let cut = length-take n x.choice in
        let whole : xs ≡ x.choice = x.first ∙ take_all n x.choice (omega arith) in
        subst (λ (l : List (List ℕ)). Contains l a) (sym whole)
        (select_has P x.chosen a may (reached_levels x.ids a x.levels reach));
  }

-- ---- the common ids

module _ {A : Type 0} (g : List (Entry A)) (haves : List (List ℕ)) where
  chosen : Selects (Holds g) (new_ids [] haves) (common_of g haves)
  chosen = filter_selects (Holds g) (λ a. is_some (node_at g a)) (λ a held. held) (λ a held. held) (new_ids [] haves)

  each : (a : List ℕ) → Contains (common_of g haves) a → Contains haves a × Holds g a
  each a h = let r = select_from (Holds g) chosen a h in ((new_ids-from [] haves a r.1).0, r.0)

  all : (a : List ℕ) → Contains haves a → Holds g a → Contains (common_of g haves) a
  all a h held = select_has (Holds g) chosen a held (new_ids-has [] haves a h (λ c. nothing_in_nil a c))

  pub commons_are_held : IsDistinct bytes_eq (common_of g haves) × ((a : List ℕ) → Contains (common_of g haves) a ↔ (Contains haves a × Holds g a))
  unfolding IsDistinct
  commons_are_held =
      (select_distinct (Holds g) bytes_eq chosen (with_new-distinct [] haves tt), λ a. (each a, λ h. all a h.0 h.1))

-- ---- the distinct ids of a list

pub distinct_are_once : (ids : List (List ℕ)) → AreDistinct ids
unfolding IsDistinct
distinct_are_once ids = record {
  once = with_new-distinct [] ids tt;
  same = λ a. (λ h. (new_ids-from [] ids a h).0, λ h. new_ids-has [] ids a h (λ c. nothing_in_nil a c));
  order = λ front back parts. (new_ids (distinct_of front) back, ap distinct_of parts ∙ new_ids-append [] front back);
}
