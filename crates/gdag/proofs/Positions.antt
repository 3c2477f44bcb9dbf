-- Look-ups of an id by node and by position agree.
use Rattle.std.proofs.Common.{◌≡◌, ℕ, true, List, [], ◌∷◌, get_or, Some, refl, ap, ◌∙◌, subst}
use Rattle.std.specs.List.{slice_get}
use Rattle.std.proofs.lemmas.Option.{none-some, slice_get-get_or, get_or_from_slice_get}
use Rattle.std.proofs.lemmas.List.Quantifiers.{position-Some}
use Rattle.gname.specs.Ids.{IsIdOf}
use Rattle.gobject.specs.declared.node.Node.{Node}
use Rattle.gobject.specs.declared.node.Entry.{Entry}
use Rattle.gobject.specs.Objects.{entry_of, has_id, position_of}
use Rattle.gdag.specs.Graphs.{HasIdsOf, History, Holds, IsGraph, IsNode}
use Rattle.gdag.specs.Laws.{IsAt, PositionsAreNodes}
use Rattle.gdag.proofs.Growing.{all_standing}
use Rattle.gdag.proofs.Holding.{has_id_is, held_node, own_position}
use Rattle.gdag.proofs.Ordering.{entry_at_position}
use Rattle.gdag.proofs.Reaching.{position_inside, position_of_node}
use Rattle.gdag.proofs.Sharing.{entry_is, own_node}

pub id_at_position : {A : Type 0} (g : List (Entry A)) (a : List ℕ) (p : ℕ) (entry : Entry A) → position_of g a ≡ Some p → slice_get g p ≡ Some entry → entry.id ≡ a
id_at_position [] a p entry position at = absurd (none-some p position)
id_at_position {A} (first ∷ g) a p entry position at =
    let found = (position-Some (has_id a) (first ∷ g) p first position).1 in
    has_id_is a entry (subst (λ (e : Entry A). has_id a e ≡ true) (get_or_from_slice_get (first ∷ g) p entry first at) found)

at_of_node : {A : Type 0} (g : List (Entry A)) (a : List ℕ) (node : Node A) → IsNode g a node → (p : ℕ) × IsAt g p a node
at_of_node g a node is =
    let position = position_of_node g a node is in
    let at = entry_at_position g a position.0 node position.1 is in
    (position.0, at.1 ∙ ap Some (entry_is at.0 a node (id_at_position g a position.0 at.0 position.1 at.1) at.2))

at_of_position : {A : Type 0} (g : List (Entry A)) (a : List ℕ) (p : ℕ) → position_of g a ≡ Some p → (node : Node A) × IsAt g p a node
at_of_position [] a p position = absurd (none-some p position)
at_of_position (first ∷ g) a p position =
    let entry = get_or (first ∷ g) p first in
    let at = slice_get-get_or (first ∷ g) p first (position_inside (first ∷ g) a p position) in
    (entry.node, at ∙ ap Some (entry_is entry a entry.node (id_at_position (first ∷ g) a p entry position at) refl))

pub positions_are_nodes : (A : Type 0) → PositionsAreNodes A
positions_are_nodes A g differ = (
  λ a node. (at_of_node g a node, λ at. own_node g at.0 (entry_of a node) differ at.1),
  λ a p. (at_of_position g a p, λ at. own_position g p (entry_of a at.0) differ at.1),
)

-- each id that a graph contains has the format of the graph
pub held_id : {A : Type 0} → PositionsAreNodes A → (g : History A) → IsGraph g → (a : List ℕ) → Holds g.entries a → IsIdOf g.format a
held_id law g graph a held =
    let node = held_node g.entries a held in
    let at = ((law g.entries graph.differ).0 a node.0).0 node.1 in
    (all_standing (HasIdsOf g.format) g.entries at.0 (entry_of a node.0) at.1 graph.ids).id
