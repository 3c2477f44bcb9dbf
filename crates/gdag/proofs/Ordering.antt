-- Graphs in which each entry comes after its parents.
use Rattle.std.proofs.Common.{◌≡◌, ◌⊎◌, inl, inr, ℕ, zero, suc, ◌<◌, ◌≤◌, List, [], ◌∷◌, ◌++◌, length, take, All, Contains, Some, refl, sym, ◌∙◌, subst, arith}
use Rattle.std.specs.List.{slice_get}
use Rattle.std.proofs.lemmas.List.{take-append-le}
use Rattle.std.proofs.lemmas.List.Elements.{All-contains}
use Rattle.std.proofs.Math.Seq.{take-append_seam}
use Rattle.std.proofs.lemmas.Option.{same_Some, none-some, slice_get_within}
use Rattle.gobject.specs.declared.node.Node.{Node}
use Rattle.gobject.specs.declared.node.Entry.{Entry}
use Rattle.gobject.specs.Objects.{position_of, IdsDiffer}
use Rattle.gdag.specs.Graphs.{IsNode, Holds, HasParent, IsOrdered}
use Rattle.gdag.specs.Reach.{Reaches, here, onward, IsClosed}
use Rattle.gdag.proofs.Reaching.{node_at_position, held_at_position, position_at, position_of_node}
use Rattle.gdag.proofs.Holding.{mapped_from, own_position}

-- ---- one more entry

at_more : {X : Type 0} (xs : List X) (x y : X) (p : ℕ) → slice_get (xs ++ x ∷ []) p ≡ Some y → ((p < length xs) × (slice_get xs p ≡ Some y)) ⊎ ((p ≡ length xs) × (y ≡ x))
at_more [] x y zero at = inr (refl, sym (same_Some x y at))
at_more [] x y (suc p) at = absurd (none-some y at)
at_more (first ∷ xs) x y zero at = inl (omega arith, at)
at_more (first ∷ xs) x y (suc p) at =
    elim (at_more xs x y p at) [
      | inl h ↦ (let e = h.0 in inl (omega arith, h.1))
      | inr h ↦ (let e = h.0 in inr (omega arith, h.1))
    ]

at_front : {X : Type 0} (xs more : List X) (y : X) (p : ℕ) → slice_get xs p ≡ Some y → slice_get (xs ++ more) p ≡ Some y
at_front [] more y p at = absurd (none-some y at)
at_front (first ∷ xs) more y zero at = at
at_front (first ∷ xs) more y (suc p) at = at_front xs more y p at

at_end : {X : Type 0} (xs : List X) (x : X) → slice_get (xs ++ x ∷ []) (length xs) ≡ Some x
at_end [] x = refl
at_end (first ∷ xs) x = at_end xs x

module _ {A : Type 0} (g : List (Entry A)) (entry : Entry A) where
  pub ordered_push : IsOrdered g → All (Holds g) entry.node.parents → IsOrdered (g ++ entry ∷ [])
  ordered_push ordered held p e at =
      elim (at_more g entry e p at) [
        | inl h ↦ (
            let inside : p ≤ length g = let l = h.0 in omega arith in
            rw (take-append-le p g (entry ∷ []) inside) (ordered p e h.1))
        | inr h ↦ (
            let P : ℕ → Entry A → Type 0 = λ n x. All (Holds (take n (g ++ entry ∷ []))) x.node.parents in
            let last : P (length g) entry = rw (take-append_seam g (entry ∷ [])) held in
            subst (λ x. P p x) (sym h.1) (subst (λ n. P n entry) (sym h.0) last))
      ]

  pub ordered_before : IsOrdered (g ++ entry ∷ []) → IsOrdered g
  ordered_before ordered p e at =
      let inside : p ≤ length g = let l = slice_get_within g p e at in omega arith in
      rw (← take-append-le p g (entry ∷ []) inside) (ordered p e (at_front g (entry ∷ []) e p at))

  pub ordered_last : IsOrdered (g ++ entry ∷ []) → All (Holds g) entry.node.parents
  ordered_last ordered =
      rw (take-append_seam g (entry ∷ [])) at (ordered (length g) entry (at_end g entry))

-- ---- positions

in_take : {X : Type 0} (xs : List X) (n p : ℕ) (x : X) → slice_get (take n xs) p ≡ Some x → (slice_get xs p ≡ Some x) × (p < n)
in_take xs zero p x at = absurd (none-some x at)
in_take [] (suc n) p x at = absurd (none-some x at)
in_take (first ∷ xs) (suc n) zero x at = (at, omega arith)
in_take (first ∷ xs) (suc n) (suc p) x at = let h = in_take xs n p x at in (h.0, let l = h.1 in omega arith)

-- an id of the entries before a position has a lower position
pub position_before : {A : Type 0} (g : List (Entry A)) (p : ℕ) (a : List ℕ) → IdsDiffer g → Holds (take p g) a → (q : ℕ) × (position_of g a ≡ Some q) × (q < p)
position_before {A} g p a differ held =
    let at = position_at (take p g) a held in
    let inside = in_take g p at.0 at.1 at.2 in
    (at.0, (rw at.3 at (own_position g at.0 at.1 differ inside.0)), inside.1)

-- the node of an id is the node of the entry at the position of the id
pub entry_at_position : {A : Type 0} (g : List (Entry A)) (a : List ℕ) (p : ℕ) (node : Node A) → position_of g a ≡ Some p → IsNode g a node → (entry : Entry A) × (slice_get g p ≡ Some entry) × (entry.node ≡ node)
entry_at_position g a p node position is =
    mapped_from (λ entry. entry.node) (slice_get g p) node (sym (node_at_position g a p position) ∙ is)

-- the parents of an entry have lower positions than the entry
pub parent_position : {A : Type 0} (g : List (Entry A)) (p : ℕ) (entry : Entry A) (b : List ℕ) → IdsDiffer g → IsOrdered g → slice_get g p ≡ Some entry → Contains entry.node.parents b → (q : ℕ) × (position_of g b ≡ Some q) × (q < p)
parent_position g p entry b differ ordered at among =
    position_before g p b differ (All-contains (Holds (take p g)) entry.node.parents b (ordered p entry at) among)

pub step_down : {A : Type 0} (g : List (Entry A)) (a b : List ℕ) (p : ℕ) → IdsDiffer g → IsOrdered g → HasParent g a b → position_of g a ≡ Some p → (q : ℕ) × (position_of g b ≡ Some q) × (q < p)
step_down {A} g a b p differ ordered parent position =
    let at = entry_at_position g a p parent.0 position parent.1 in
    parent_position g p at.0 b differ ordered at.1 (rw (← at.2) at parent.2)

-- a reachable id has the same or a lower position
pub reaching_down : {A : Type 0} (g : List (Entry A)) (a b : List ℕ) (p : ℕ) → IdsDiffer g → IsOrdered g → Reaches g a b → position_of g a ≡ Some p → (q : ℕ) × (position_of g b ≡ Some q) × (q ≤ p)
reaching_down g a b p differ ordered here position = (p, position, omega arith)
reaching_down g a b p differ ordered (onward {b = m} parent rest) position =
    let step = step_down g a m p differ ordered parent position in
    let on = reaching_down g m b step.0 differ ordered rest step.1 in
    (on.0, on.1, let l = on.2 in let k = step.2 in omega arith)

pub ordered_is_closed : {A : Type 0} (g : List (Entry A)) → IdsDiffer g → IsOrdered g → IsClosed g
ordered_is_closed g differ ordered a b parent =
    let position = position_of_node g a parent.0 parent.1 in
    let step = step_down g a b position.0 differ ordered parent position.1 in
    held_at_position g b step.0 step.1
