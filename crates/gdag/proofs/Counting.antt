-- The number of ids in a graph that some ids reach.
use Rattle.std.proofs.Common.{◌≡◌, inl, inr, ℕ, ◌≤◌, false, List, [], ◌∷◌, ◌++◌, length, All, Contains, bytes_eq, None, refl, sym, ap, ◌∙◌, subst, arith}
use Rattle.std.specs.List.{IsDistinct}
use Rattle.std.specs.Option.{is_some}
use Rattle.std.proofs.lemmas.Bool.{false≢true}
use Rattle.std.proofs.lemmas.Cmp.{nat_list_eq_equiv}
use Rattle.std.proofs.lemmas.List.{length-map}
use Rattle.std.proofs.lemmas.List.Elements.{All-contains, Contains-append_right}
use Rattle.std.proofs.lemmas.Map.Made.{length-le_from_is_member}
use Rattle.gobject.specs.declared.node.Entry.{Entry}
use Rattle.gobject.specs.Objects.{has_id, node_at, IdsDiffer}
use Rattle.gdag.specs.Graphs.{Holds}
use Rattle.gdag.specs.Reach.{SomeReaches, IsConnected, Grows}
use Rattle.gdag.specs.Selecting.{Selects}
use Rattle.gdag.specs.Walks.{CountsReached}
use Rattle.gdag.proofs.Choosing.{chosen_or_not, selects_same, selects_before}
use Rattle.gdag.proofs.Growing.{grows_keeps, keeps_reaching, other_id}
use Rattle.gdag.proofs.Holding.{node_there, absent_head, absent_tail}
use Rattle.gdag.proofs.IdLists.{nothing_in_nil, contains_head, contains_tail, contains_cases, any_from_contains, contains_from_any}
use Rattle.gdag.proofs.Reaching.{position_at}
pub use Rattle.gdag.proofs.Reaching.{ids_of}
use Rattle.gdag.proofs.Sharing.{reached_already}

-- ---- the count of distinct reachable ids

id_among : {A : Type 0} (list : List (Entry A)) (entry : Entry A) → Contains list entry → Contains (ids_of list) entry.id
id_among [] entry among = nothing_in_nil entry among
id_among {A} (first ∷ list) entry among =
    elim (contains_cases first list entry among) [
      | inl same ↦ subst (λ (e : Entry A). Contains (ids_of (first ∷ list)) e.id) same (contains_head first.id (ids_of list))
      | inr later ↦ contains_tail first.id (ids_of list) entry.id (id_among list entry later)
    ]

reached_among : {A : Type 0} (g list : List (Entry A)) (tips : List (List ℕ)) (a : List ℕ) → Selects (λ entry. SomeReaches g tips entry.id) g list → Holds g a → SomeReaches g tips a → Contains (ids_of list) a
reached_among {A} g list tips a reached held some =
    let at = position_at g a held in
    elim (chosen_or_not (λ (entry : Entry A). SomeReaches g tips entry.id) g list at.0 at.1 reached at.2) [
      | inl among ↦ subst (λ (x : List ℕ). Contains (ids_of list) x) at.3 (id_among list at.1 among)
      | inr left_out ↦ absurd (left_out (subst (SomeReaches g tips) (sym at.3) some))
    ]

pub reached_are_counted : {A : Type 0} (g : List (Entry A)) (tips ids : List (List ℕ)) (held parents : ℕ) → CountsReached g tips held parents → IsDistinct bytes_eq ids → All (λ a. Holds g a × SomeReaches g tips a) ids → length ids ≤ held
reached_are_counted {A} g tips ids held parents counts distinct each =
    let names = ids_of counts.list in
    let counted : (a : List ℕ) → Contains ids a → Contains names a =
    λ a among. let h = All-contains (λ a. Holds g a × SomeReaches g tips a) ids a each among in reached_among g counts.list tips a counts.reached h.0 h.1 in
    let within = length-le_from_is_member nat_list_eq_equiv ids names distinct (λ q h. any_from_contains names q (counted q (contains_from_any ids q h))) in
    let same = length-map counts.list (λ (entry : Entry A). entry.id) in let is = counts.held_are in
    omega (arith, within, same, is)

-- ---- the count after the graph grows

absent_member : {A : Type 0} (g : List (Entry A)) (a : List ℕ) (entry : Entry A) → node_at g a ≡ None → Contains g entry → has_id a entry ≡ false
absent_member [] a entry absent among = nothing_in_nil entry among
absent_member {A} (first ∷ g) a entry absent among =
    elim (contains_cases first g entry among) [
      | inl same ↦ subst (λ (e : Entry A). has_id a e ≡ false) same (absent_head first g a absent)
      | inr later ↦ absent_member g a entry (absent_tail first g a absent) later
    ]

-- the id of an entry of `more` is not an id of `g`
new_after : {A : Type 0} (g more : List (Entry A)) (entry : Entry A) → IdsDiffer (g ++ more) → Contains more entry → node_at g entry.id ≡ None
new_after [] more entry differ among = refl
new_after (first ∷ g) more entry differ among =
    node_there first g entry.id (other_id entry first (absent_member (g ++ more) first.id entry differ.0 (Contains-append_right g more entry among)))
    ∙ new_after g more entry differ.1 among

module _ {A : Type 0} (g h : List (Entry A)) (tips : List (List ℕ)) (grows : Grows g h) (differ : IdsDiffer h) (connected : All (IsConnected g) tips) where
  reached_later : (a : List ℕ) → SomeReaches g tips a → SomeReaches h tips a
  reached_later a some = (some.0, some.1, keeps_reaching g h (grows_keeps g h grows) some.0 a some.2)

  reached_earlier : (a : List ℕ) → SomeReaches h tips a → SomeReaches g tips a
  reached_earlier a some =
      (some.0, some.1, reached_already g h some.0 a (grows_keeps g h grows) (All-contains (IsConnected g) tips some.0 connected some.1) some.2)

  not_reached : (entry : Entry A) → Contains grows.0 entry → ¬ (SomeReaches h tips entry.id)
  not_reached entry among some =
      let before = reached_earlier entry.id some in
      let held : Holds g entry.id = All-contains (IsConnected g) tips before.0 connected before.1 entry.id before.2 in
      false≢true (sym (ap is_some (new_after g grows.0 entry (subst (λ (xs : List (Entry A)). IdsDiffer xs) grows.1 differ) among)) ∙ held)

  pub counts_stay : (held parents : ℕ) → CountsReached g tips held parents → CountsReached h tips held parents
  counts_stay held parents counts = let P : Entry A → Type 0 = λ entry. SomeReaches h tips entry.id in record {
    list = counts.list;
    reached = subst (λ (xs : List (Entry A)). Selects P xs counts.list) (sym grows.1)
        (selects_before P g counts.list grows.0 not_reached (selects_same (λ entry. SomeReaches g tips entry.id) P g counts.list
        (λ entry some. reached_later entry.id some) (λ entry some. reached_earlier entry.id some) counts.reached));
    held_are = counts.held_are;
    parents_are = counts.parents_are;
  }
