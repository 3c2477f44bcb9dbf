-- The levels from some tips: the ids at each distance, each id once, with a bound on their number.
use Rattle.std.proofs.Common.{◌≡◌, ◌⊎◌, ℕ, zero, suc, ◌<◌, ◌≤◌, ◌+◌, Bool, cond, List, [], ◌∷◌, ◌++◌, length, find, Contains, flat_map, bytes_eq, Option, Some, None, option_map, unwrap_or, refl, sym, ap, subst, ◌∙◌, inl, inr, length-append, eq-or-lt_of_le, arith}
use Rattle.std.specs.List.{IsDistinct}
use Rattle.std.proofs.lemmas.Cmp.{nat_list_eq_equiv}
use Rattle.std.proofs.lemmas.List.Elements.{Contains-append_left, Contains-append_right, Contains-append_cases}
use Rattle.std.proofs.lemmas.Map.Made.{length-le_from_is_member}
use Rattle.gobject.specs.declared.node.Node.{Node}
use Rattle.gobject.specs.declared.node.Entry.{Entry}
use Rattle.gobject.specs.Objects.{node_at, has_id}
use Rattle.gdag.specs.Graphs.{HasParent}
use Rattle.gdag.specs.Levels.{new_ids, parents_of, parents_of_each, level, levels_below, Steps, IsAtDistance, AreDistances}
use Rattle.gdag.proofs.IdLists.{either_way, nothing_in_nil, in_or_not, any_from_contains, contains_from_any, new_ids-from, new_ids-has, with_new-distinct, flat_map-has, flat_map-from}

-- ---- parents

parent_in : {A : Type 0} → (g : List (Entry A)) (b a : List ℕ) → (o : Option (Node A)) → node_at g b ≡ o → Contains (unwrap_or (option_map (λ (node : Node A). node.parents) o) []) a → HasParent g b a
parent_in g b a None e h = nothing_in_nil a h
parent_in g b a (Some node) e h = (node, e, h)

pub parent_from : {A : Type 0} → (g : List (Entry A)) (b a : List ℕ) → Contains (parents_of g b) a → HasParent g b a
parent_from g b a h = parent_in g b a (node_at g b) refl h

pub parent_to : {A : Type 0} → (g : List (Entry A)) (b a : List ℕ) → HasParent g b a → Contains (parents_of g b) a
parent_to {A} g b a h =
    subst (λ (o : Option (Node A)). Contains (unwrap_or (option_map (λ (node : Node A). node.parents) o) []) a) (sym h.1) h.2

-- the parents of all entries
abbrev pub all_parents : {A : Type 0} → List (Entry A) → List (List ℕ)
all_parents g = flat_map (λ entry. entry.node.parents) g

entry_parent : {A : Type 0} → (g : List (Entry A)) (b a : List ℕ) (node : Node A) → node_at g b ≡ Some node → Contains node.parents a → Contains (all_parents g) a
entry_parent [] b a node e h = absurd (cc)
entry_parent {A} (entry ∷ g) b a node e h =
    either_way (has_id b entry)
    (λ t. Contains-append_left entry.node.parents (all_parents g) a (let same : Some entry.node ≡ Some node = sym (ap (λ (t : Bool). option_map (λ (x : Entry A). x.node) (cond t (Some entry) (find (has_id b) g))) t) ∙ e in
    let node_is : entry.node ≡ node = cc in subst (λ (n : Node A). Contains n.parents a) (sym node_is) h))
    (λ t. Contains-append_right entry.node.parents (all_parents g) a
    (entry_parent g b a node (sym (ap (λ (t : Bool). option_map (λ (x : Entry A). x.node) (cond t (Some entry) (find (has_id b) g))) t) ∙ e) h))

-- ---- levels

-- a path of fewer than k steps leads from some tip to the id
abbrev pub IsNearer : {A : Type 0} → List (Entry A) → List (List ℕ) → ℕ → List ℕ → Type 0
IsNearer g tips k a = (j : ℕ) × (j < k) × Steps g tips j a

-- the facts about level k and the earlier levels, proved together
pub record Exact {A : Type 0} (g : List (Entry A)) (tips : List (List ℕ)) (k : ℕ) : Type 0 where
  pub near : (a : List ℕ) → Contains (levels_below g tips k) a → IsNearer g tips k a
  pub near_back : (a : List ℕ) → IsNearer g tips k a → Contains (levels_below g tips k) a
  pub at : (a : List ℕ) → Contains (level g tips k) a → IsAtDistance g tips k a
  pub at_back : (a : List ℕ) → IsAtDistance g tips k a → Contains (level g tips k) a

module _ {A : Type 0} (g : List (Entry A)) (tips : List (List ℕ)) where
  nearer_more : (k : ℕ) (a : List ℕ) → IsNearer g tips k a → IsNearer g tips (suc k) a
  nearer_more k a (j, h, path) = (j, omega arith, path)

  next_near : (k : ℕ) → Exact g tips k → (a : List ℕ) → Contains (levels_below g tips (suc k)) a → IsNearer g tips (suc k) a
  next_near k exact a h =
      elim (Contains-append_cases (levels_below g tips k) (level g tips k) a h) [
        | inl before ↦ nearer_more k a (exact.near a before)
        | inr here ↦ (k, omega arith, (exact.at a here).path)
      ]

  next_near_back : (k : ℕ) → Exact g tips k → (a : List ℕ) → IsNearer g tips (suc k) a → Contains (levels_below g tips (suc k)) a
  next_near_back k exact a near =
      elim (in_or_not (levels_below g tips k) a) [
        | inl before ↦ Contains-append_left (levels_below g tips k) (level g tips k) a before
        | inr out ↦ Contains-append_right (levels_below g tips k) (level g tips k) a (exact.at_back a (only_at k exact a out near))
      ]
    where
      only_at : (k : ℕ) → Exact g tips k → (a : List ℕ) → ¬ (Contains (levels_below g tips k) a) → IsNearer g tips (suc k) a → IsAtDistance g tips k a
      only_at k exact a out (j, h, path) =
          let far : ¬ (j < k) = λ near. out (exact.near_back a (j, near, path)) in
          let same : j ≡ k = omega arith in
          record {
            path = subst (λ (i : ℕ). Steps g tips i a) same path;
            least = λ i less steps. out (exact.near_back a (i, less, steps));
          }

  next_at : (k : ℕ) → Exact g tips k → (a : List ℕ) → Contains (level g tips (suc k)) a → IsAtDistance g tips (suc k) a
  next_at k exact a h =
      let new = new_ids-from (levels_below g tips (suc k)) (parents_of_each g (level g tips k)) a h in
      let child = flat_map-from (parents_of g) (level g tips k) a new.0 in
      record {
        path = (child.0, (exact.at child.0 child.1).path, parent_from g child.0 a child.2);
        least = λ j less steps. new.1 (next_near_back k exact a (j, less, steps));
      }

  next_at_back : (k : ℕ) → Exact g tips k → (a : List ℕ) → IsAtDistance g tips (suc k) a → Contains (level g tips (suc k)) a
  next_at_back k exact a at =
      let b = at.path.0 in
      let out : ¬ (Contains (levels_below g tips (suc k)) a) =
      λ c. let near = next_near k exact a c in at.least near.0 near.1 near.2 in
      let child : Contains (level g tips k) b = exact.at_back b record {
        path = at.path.1;
        least = λ j less steps. at.least (suc j) (omega arith) (b, steps, at.path.2);
      } in
      new_ids-has (levels_below g tips (suc k)) (parents_of_each g (level g tips k)) a
      (flat_map-has (parents_of g) (level g tips k) b a child (parent_to g b a at.path.2)) out

  pub exact_at : (k : ℕ) → Exact g tips k
  exact_at zero = record {
    near = λ a h. nothing_in_nil a h;
    near_back = λ a near. absurd (omega (arith, near.1));
    at = λ a h. record { path = (new_ids-from [] tips a h).0; least = λ j less steps. absurd (omega (arith, less)) };
    at_back = λ a at. new_ids-has [] tips a at.path (λ c. nothing_in_nil a c);
  }
  exact_at (suc k) = let exact = exact_at k in record {
    near = next_near k exact;
    near_back = next_near_back k exact;
    at = next_at k exact;
    at_back = next_at_back k exact;
  }

  -- ---- distinct ids and their number

  once_and_next : (k : ℕ) → IsDistinct bytes_eq (levels_below g tips k) × IsDistinct bytes_eq (levels_below g tips (suc k))
  unfolding IsDistinct
  once_and_next zero = (tt, with_new-distinct [] tips tt)
  once_and_next (suc k) =
      let before = (once_and_next k).1 in
      (before, with_new-distinct (levels_below g tips (suc k)) (parents_of_each g (level g tips k)) before)

  pub levels_once : (k : ℕ) → IsDistinct bytes_eq (levels_below g tips k)
  levels_once k = (once_and_next k).0

  step_from : (k : ℕ) (a : List ℕ) → Steps g tips k a → Contains (tips ++ all_parents g) a
  step_from zero a h = Contains-append_left tips (all_parents g) a h
  step_from (suc k) a h = Contains-append_right tips (all_parents g) a (entry_parent g h.0 a h.2.0 h.2.1 h.2.2)

  pub levels_few : (k : ℕ) → length (levels_below g tips k) ≤ length tips + length (all_parents g)
  levels_few k =
      let within = length-le_from_is_member nat_list_eq_equiv (levels_below g tips k) (tips ++ all_parents g) (levels_once k)
      (λ q h. let near = (exact_at k).near q (contains_from_any (levels_below g tips k) q h) in
      any_from_contains (tips ++ all_parents g) q (step_from near.0 q near.2)) in
      omega (arith, within, length-append tips (all_parents g))

  -- ---- the empty level

  some_empty : (k : ℕ) → ((j : ℕ) × (level g tips j ≡ [])) ⊎ (k ≤ length (levels_below g tips k))
  some_empty zero = inr (omega arith)
  some_empty (suc k) = elim (some_empty k) [ inl found ↦ inl found | inr long ↦ by k long (level g tips k) refl ]
    where
      by : (k : ℕ) → k ≤ length (levels_below g tips k) → (l : List (List ℕ)) → level g tips k ≡ l → ((j : ℕ) × (level g tips j ≡ [])) ⊎ (suc k ≤ length (levels_below g tips (suc k)))
      by k long [] e = inl (k, e)
      by k long (x ∷ l) e = inr (omega (arith, length-append (levels_below g tips k) (level g tips k), ap length e))

  pub levels_end : (k : ℕ) × (level g tips k ≡ [])
  levels_end = let most = length tips + length (all_parents g) in
      elim (some_empty (suc most)) [ inl found ↦ found | inr long ↦ absurd (omega (arith, levels_few (suc most))) ]

  empty_next : (k : ℕ) → level g tips k ≡ [] → level g tips (suc k) ≡ []
  empty_next k e = ap (λ l. new_ids (levels_below g tips (suc k)) (parents_of_each g l)) e

  pub levels_stay : (j k : ℕ) → j ≤ k → level g tips j ≡ [] → level g tips k ≡ []
  levels_stay j zero h e = let same : j ≡ 0 = omega arith in subst (λ (i : ℕ). level g tips i ≡ []) same e
  levels_stay j (suc k) h e = elim (eq-or-lt_of_le h) [
    | inl same ↦ subst (λ (i : ℕ). level g tips i ≡ []) same e
    | inr less ↦ empty_next k (levels_stay j k (omega arith) e)
  ]

  pub levels_are_distances : AreDistances g tips
  levels_are_distances = record {
    exact = λ k a. ((exact_at k).at a, (exact_at k).at_back a);
    once = levels_once;
    few = levels_few;
    ends = levels_end;
    stays = levels_stay;
  }
