-- A graph is closed exactly if it contains the parents of each entry.
use Rattle.std.proofs.Common.{◌≡◌, inl, inr, ℕ, ◌+◌, take, List, [], ◌∷◌, Some, refl, sym, ap, ◌∙◌, subst, All}
use Rattle.std.specs.List.{slice_get}
use Rattle.std.specs.Option.{option_map}
use Rattle.std.proofs.lemmas.Option.{none-some, same_Some, get_or_from_slice_get, slice_get_within}
use Rattle.std.proofs.lemmas.List.Elements.{All-nil, All-cons, All-head, All-tail, All-contains, All-contains_itself, All-more}
use Rattle.gobject.specs.declared.node.Node.{Node}
use Rattle.gobject.specs.declared.node.Entry.{Entry}
use Rattle.gobject.specs.Objects.{node_at, IdsDiffer}
use Rattle.gdag.specs.Graphs.{Holds, HoldsParents, IsNode}
use Rattle.gdag.specs.Reach.{IsClosed}
use Rattle.gdag.proofs.Holding.{mapped_from, has_id_is, is_has_id, id_cases, node_here, node_there}

module _ {A : Type 0} (P : Node A → Type 0) where
  -- if P holds for the node of each entry, P holds for each node that a look-up finds
  holds_of_found : (g : List (Entry A)) (a : List ℕ) (node : Node A) → All (λ entry. P entry.node) g → IsNode g a node → P node
  holds_of_found [] a node each is = absurd (none-some node is)
  holds_of_found (entry ∷ g) a node each is =
      elim (id_cases a entry) [
        | inl same ↦ subst P (same_Some entry.node node (sym (node_here entry g a same) ∙ is)) (All-head (λ (e : Entry A). P e.node) entry g each)
        | inr other ↦ holds_of_found g a node (All-tail (λ (e : Entry A). P e.node) entry g each) (sym (node_there entry g a other) ∙ is)
      ]

  -- if the ids are distinct and P holds for each node that a look-up finds, P holds for the node of each entry
  holds_of_each : (g : List (Entry A)) → IdsDiffer g → ((a : List ℕ) (node : Node A) → IsNode g a node → P node) → All (λ entry. P entry.node) g
  holds_of_each [] differ found = All-nil (λ (e : Entry A). P e.node)
  holds_of_each (entry ∷ g) differ found =
      All-cons (λ (e : Entry A). P e.node) entry g (found entry.id entry.node (node_here entry g entry.id (is_has_id entry.id entry refl)))
      (holds_of_each g differ.1 (λ a node is.
      elim (id_cases a entry) [
        | inl same ↦ absurd (none-some node (sym differ.0 ∙ (ap (node_at g) (has_id_is a entry same) ∙ is)))
        | inr other ↦ found a node (node_there entry g a other ∙ is)
      ]))

pub closed_from_each : {A : Type 0} (g : List (Entry A)) → All (HoldsParents g) g → IsClosed g
closed_from_each {A} g each a b has =
    All-contains (Holds g) has.0.parents b (holds_of_found (λ (node : Node A). All (Holds g) node.parents) g a has.0 each has.1) has.2

pub each_from_closed : {A : Type 0} (g : List (Entry A)) → IdsDiffer g → IsClosed g → All (HoldsParents g) g
each_from_closed {A} g differ closed =
    holds_of_each (λ (node : Node A). All (Holds g) node.parents) g differ (λ a node is k d inside. closed a _ (node, is, All-contains_itself node.parents k d inside))

-- ---- the parents of the entry at a position

pub parents_entry : {A : Type 0} (g : List (Entry A)) (p : ℕ) (parents : List (List ℕ)) → option_map (λ entry. entry.node.parents) (slice_get g p) ≡ Some parents → (entry : Entry A) × (slice_get g p ≡ Some entry) × (entry.node.parents ≡ parents)
parents_entry g p parents at = mapped_from (λ entry. entry.node.parents) (slice_get g p) parents at

-- if a graph contains the parents of each entry, it contains the parents of the entry at position `p`
pub holds_at : {A : Type 0} (g : List (Entry A)) (p : ℕ) (parents : List (List ℕ)) → option_map (λ entry. entry.node.parents) (slice_get g p) ≡ Some parents → All (HoldsParents g) g → All (Holds g) parents
holds_at {A} g p parents at each =
    let e = parents_entry g p parents at in
    let P : Entry A → Type 0 = λ entry. All (Holds g) entry.node.parents in
    subst (All (Holds g)) e.2 (subst P (get_or_from_slice_get g p e.0 e.0 e.1) (each p e.0 (slice_get_within g p e.0 e.1)))

-- if a graph contains the parents of the first `p` entries and of the entry at position `p`, this is true of `p + 1`
-- entries
pub holds_more : {A : Type 0} (g : List (Entry A)) (p : ℕ) (parents : List (List ℕ)) → option_map (λ entry. entry.node.parents) (slice_get g p) ≡ Some parents → All (HoldsParents g) (take p g) → All (Holds g) parents → All (HoldsParents g) (take (p + 1) g)
holds_more {A} g p parents at each here =
    let e = parents_entry g p parents at in
    let P : Entry A → Type 0 = λ entry. All (Holds g) entry.node.parents in
    All-more P g p e.0 (slice_get_within g p e.0 e.1) each (subst P (sym (get_or_from_slice_get g p e.0 e.0 e.1)) (subst (All (Holds g)) (sym e.2) here))
