-- Reachability, and positions of ids.
use Rattle.std.proofs.Common.{◌≡◌, ℕ, ◌<◌, ◌≤◌, List, [], ◌∷◌, length, map, get_or, Contains, Option, Some, None, refl, sym, ap, ◌∙◌, arith}
use Rattle.std.specs.List.{position_or_len, slice_get}
use Rattle.std.specs.Option.{option_map}
use Rattle.std.proofs.lemmas.List.Quantifiers.{position-Some}
use Rattle.std.proofs.lemmas.List.Folds.{find_at}
use Rattle.std.proofs.lemmas.Option.{get_or_from_slice_get, slice_get-get_or, slice_get-map, slice_get_past, slice_get_within, cond_some, none-some}
use Rattle.std.proofs.lemmas.Bool.{false≢true}
use Rattle.std.proofs.lemmas.Bool.Decides.{nat_tests}
use Rattle.gobject.specs.declared.node.Node.{Node}
use Rattle.gobject.specs.declared.node.Entry.{Entry}
use Rattle.gobject.specs.Objects.{has_id, node_at, position_of}
use Rattle.gdag.specs.Graphs.{IsNode, Holds, HasParent}
use Rattle.gdag.specs.Reach.{Reaches, here, onward, SomeReaches, IsConnected, IsClosed}
use Rattle.gdag.proofs.Holding.{has_id_is, held_node}

-- ---- reachability

pub reaches_parent : {A : Type 0} (g : List (Entry A)) (a b c : List ℕ) → Reaches g a b → HasParent g b c → Reaches g a c
reaches_parent g a b c here p = onward p here
reaches_parent g a b c (onward {b = m} q r) p = onward q (reaches_parent g m b c r p)

pub reaches_on : {A : Type 0} (g : List (Entry A)) (a b c : List ℕ) → Reaches g a b → Reaches g b c → Reaches g a c
reaches_on g a b c here s = s
reaches_on g a b c (onward {b = m} q r) s = onward q (reaches_on g m b c r s)

-- if each step from an id to a parent keeps a property, the property holds for each reachable id
pub kept_along : {A : Type 0} (g : List (Entry A)) (P : List ℕ → Type 0) → ((a b : List ℕ) → P a → HasParent g a b → P b) → (a b : List ℕ) → Reaches g a b → P a → P b
kept_along g P step a b here h = h
kept_along g P step a b (onward {b = m} q r) h = kept_along g P step m b r (step a m h q)

-- in a closed graph, each id that the graph contains is connected
pub connected_in_closed : {A : Type 0} (g : List (Entry A)) → IsClosed g → (a : List ℕ) → Holds g a → IsConnected g a
connected_in_closed g closed a held b r = kept_along g (Holds g) (λ x y _ p. closed x y p) a b r held

pub some_reaches : {A : Type 0} (g : List (Entry A)) (ids : List (List ℕ)) (a b : List ℕ) → SomeReaches g ids a → HasParent g a b → SomeReaches g ids b
some_reaches g ids a b s p = (s.0, s.1, reaches_parent g s.0 a b s.2 p)

-- ---- positions

pub position_inside : {A : Type 0} (g : List (Entry A)) (a : List ℕ) (p : ℕ) → position_of g a ≡ Some p → p < length g
position_inside [] a p e = absurd (none-some p e)
position_inside (entry ∷ g) a p e = (position-Some (has_id a) (entry ∷ g) p entry e).0

-- at most one id has a given position
pub position_same : {A : Type 0} (g : List (Entry A)) (a b : List ℕ) (p : ℕ) → position_of g a ≡ Some p → position_of g b ≡ Some p → a ≡ b
position_same [] a b p e f = absurd (none-some p e)
position_same (entry ∷ g) a b p e f =
    let x = get_or (entry ∷ g) p entry in
    sym (has_id_is a x (position-Some (has_id a) (entry ∷ g) p entry e).1)
    ∙ has_id_is b x (position-Some (has_id b) (entry ∷ g) p entry f).1

position_is : {A : Type 0} (g : List (Entry A)) (a : List ℕ) (p : ℕ) → position_of g a ≡ Some p → position_or_len (has_id a) g ≡ p
position_is g a p e = (cond_some _ (position_or_len (has_id a) g) p e).1

pub node_at_position : {A : Type 0} (g : List (Entry A)) (a : List ℕ) (p : ℕ) → position_of g a ≡ Some p → node_at g a ≡ option_map (λ entry. entry.node) (slice_get g p)
node_at_position g a p e =
    ap (option_map (λ entry. entry.node)) (find_at (has_id a) g ∙ ap (slice_get g) (position_is g a p e))

-- a graph does not contain an id that has no position
pub node_at_none : {A : Type 0} (g : List (Entry A)) (a : List ℕ) → position_of g a ≡ None → node_at g a ≡ None
node_at_none {A} g a e =
    let n = position_or_len (has_id a) g in
    let past : length g ≤ n = grind (arith, nat_tests) in
    ap (option_map (λ (entry : Entry A). entry.node)) (find_at (has_id a) g ∙ slice_get_past g n past)

-- a graph contains each id that has a position
pub held_at_position : {A : Type 0} (g : List (Entry A)) (a : List ℕ) (p : ℕ) → position_of g a ≡ Some p → Holds g a
held_at_position [] a p e = absurd (none-some p e)
held_at_position {A} (entry ∷ g) a p e =
    let at = slice_get-get_or (entry ∷ g) p entry (position_inside (entry ∷ g) a p e) in
    rw (node_at_position (entry ∷ g) a p e, at) refl

-- each id that a graph contains has a position
pub position_of_node : {A : Type 0} (g : List (Entry A)) (a : List ℕ) (node : Node A) → IsNode g a node → (p : ℕ) × (position_of g a ≡ Some p)
position_of_node {A} g a node is = by (position_of g a) refl
  where
    by : (o : Option ℕ) → position_of g a ≡ o → (p : ℕ) × (position_of g a ≡ Some p)
    by None none = absurd (none-some node (sym (node_at_none g a none) ∙ is))
    by (Some p) at = (p, at)

-- each id that a graph contains has a position with an entry of this id
pub position_at : {A : Type 0} (g : List (Entry A)) (a : List ℕ) → Holds g a → (p : ℕ) × (entry : Entry A) × (slice_get g p ≡ Some entry) × (entry.id ≡ a)
position_at [] a held = absurd (false≢true held)
position_at {A} (first ∷ g) a held =
    let node = held_node (first ∷ g) a held in
    let position = position_of_node (first ∷ g) a node.0 node.1 in
    let inside = position_inside (first ∷ g) a position.0 position.1 in
    let entry = get_or (first ∷ g) position.0 first in
    (position.0, entry, slice_get-get_or (first ∷ g) position.0 first inside, has_id_is a entry (position-Some (has_id a) (first ∷ g) position.0 first position.1).1)

abbrev pub ids_of : {A : Type 0} → List (Entry A) → List (List ℕ)
ids_of list = map (λ entry. entry.id) list

-- the element at a position is in the list
pub standing_among : {X : Type 0} (xs : List X) (k : ℕ) (x : X) → slice_get xs k ≡ Some x → Contains xs x
standing_among xs k x at = (k, slice_get_within xs k x at, get_or_from_slice_get xs k x x at)

-- each id that a graph contains is the id of an entry
pub held_among : {A : Type 0} (g : List (Entry A)) (a : List ℕ) → Holds g a → Contains (ids_of g) a
held_among {A} g a held =
    let at = position_at g a held in
    let id : Entry A → List ℕ = λ entry. entry.id in
    rw (← at.3) (standing_among (ids_of g) at.0 at.1.id (slice_get-map id g at.0 ∙ ap (option_map id) at.2))
