-- The marks of a walk and the ids that it reaches.
use Rattle.std.proofs.Common.{◌≡◌, ◌⊎◌, inl, inr, ◌↔◌, ℕ, suc, Bool, true, false, List, [], ◌∷◌, length, get_or, Contains, Option, Some, None, refl, sym, ap, ◌∙◌, subst, arith, rules}
use Rattle.std.specs.List.{slice_get}
use Rattle.std.specs.Option.{option_map, MatchOption}
use Rattle.std.proofs.lemmas.List.Elements.{Contains-get_or, Contains-append_right}
use Rattle.std.proofs.lemmas.Option.{same_Some}
use Rattle.std.proofs.lemmas.Bool.{false≢true}
use Rattle.gobject.specs.declared.node.Node.{Node}
use Rattle.gobject.specs.declared.node.Entry.{Entry}
use Rattle.gobject.specs.Objects.{node_at, position_of, IdsDiffer}
use Rattle.gdag.specs.Graphs.{Holds, HasParent, IsNode, IsFirstAbsent}
use Rattle.gdag.specs.Reach.{Reaches, here, onward, SomeReaches, IsConnected}
use Rattle.gwalk.specs.Marks.{AreConnected, IsUnmarked, ReachesPast, there, further, stop_at}
use Rattle.gdag.specs.Selecting.{Selects, none, keep, skip}
use Rattle.gdag.specs.Walks.{CountsReached, Misses}
use Rattle.gwalk.proofs.Marking.{none_in}
use Rattle.gwalk.proofs.Positions.{entry_there}
use Rattle.gdag.proofs.IdLists.{either_way, nothing_in_nil}
use Rattle.gdag.proofs.Holding.{held_node, not_held, own_position, mapped_from}
use Rattle.std.proofs.Common.{All, zero, ◌++◌, ◌≡◌}
use Rattle.gwalk.specs.Walks.{IsWalk, AreMarked, marked_entries}
use Rattle.gdag.proofs.Reaching.{held_at_position, node_at_position, position_inside, kept_along, some_reaches, position_of_node}
use Rattle.gwalk.proofs.LevelWalk.{met_reached, reached_met}
use Rattle.gwalk.proofs.Stopping.{bare_if, stop_position, stop_slice, stopped_entry}
use Rattle.gdag.proofs.Positions.{id_at_position}

-- the marked positions are the positions of the reachable ids
pub marks_reached : {A : Type 0} (g : List (Entry A)) (starts : List (List ℕ)) (marks : List Bool) (met : List ℕ) (lost : Option (List ℕ)) (parents : ℕ) → IdsDiffer g → IsWalk g starts marks met lost parents → AreMarked (SomeReaches g starts) g marks
marks_reached g starts marks met lost parents differ walk = record {
  long = walk.has_met.long;
  each = λ k entry at.
      let h = walk.has_met.marked entry.id k (own_position g k entry differ at) in (
        λ t. met_reached g starts walk.ids walk.levels entry.id (h.0 t),
        λ s. h.1 (reached_met g starts walk.ids walk.levels entry.id s),
      );
}

-- ---- the entries at marked positions

pub marked_selects : {A : Type 0} (P : Entry A → Type 0) (g : List (Entry A)) (marks : List Bool) → length marks ≡ length g → ((k : ℕ) (entry : Entry A) → slice_get g k ≡ Some entry → (get_or marks k false ≡ true) ↔ P entry) → Selects P g (marked_entries g marks)
marked_selects P [] marks long each = none
marked_selects P (entry ∷ g) [] long each = absurd (omega arith)
marked_selects P (entry ∷ g) (true ∷ marks) long each =
    keep ((each 0 entry refl).0 refl) (marked_selects P g marks (omega arith) (λ k. each (suc k)))
marked_selects P (entry ∷ g) (false ∷ marks) long each =
    skip (λ p. false≢true ((each 0 entry refl).1 p)) (marked_selects P g marks (omega arith) (λ k. each (suc k)))

pub counts_reached : {A : Type 0} (g : List (Entry A)) (starts : List (List ℕ)) (marks : List Bool) (met : List ℕ) (lost : Option (List ℕ)) (parents : ℕ) → IdsDiffer g → IsWalk g starts marks met lost parents → CountsReached g starts (length met) parents
counts_reached {A} g starts marks met lost parents differ walk =
    let m = marks_reached g starts marks met lost parents differ walk in
    record {
      list = marked_entries g marks;
      reached = marked_selects (λ entry. SomeReaches g starts entry.id) g marks m.long m.each;
      held_are = walk.has_met.once;
      parents_are = walk.has_met.parents_are;
    }

-- ---- the missing ids, by a walk that stops at connected ids

-- the entry of the id `a`, with its position and its node
pub record IsHeldBy {A : Type 0} (g : List (Entry A)) (a : List ℕ) (node : Node A) : Type 0 where
  pub position : ℕ
  pub position_is : position_of g a ≡ Some position
  pub entry : Entry A
  pub at : slice_get g position ≡ Some entry
  pub node_is : entry.node ≡ node
  pub id_is : entry.id ≡ a

pub found_at : {A : Type 0} (g : List (Entry A)) (a : List ℕ) (p : ℕ) → position_of g a ≡ Some p → (entry : Entry A) × (slice_get g p ≡ Some entry) × (entry.id ≡ a)
found_at g a p e =
    let there = entry_there g p (position_inside g a p e) in (there.0, there.1, id_at_position g a p there.0 e there.1)

pub held_by : {A : Type 0} (g : List (Entry A)) (a : List ℕ) (node : Node A) → IsNode g a node → IsHeldBy g a node
held_by {A} g a node held =
    let p = position_of_node g a node held in
    let m = mapped_from (λ (entry : Entry A). entry.node) (slice_get g p.0) node (sym (node_at_position g a p.0 p.1) ∙ held) in
    record { position = p.0; position_is = p.1; entry = m.0; at = m.1; node_is = m.2; id_is = id_at_position g a p.0 m.0 p.1 m.1 }

-- two graphs in which `a` has the same position both contain `a`, or neither does
module _ {A : Type 0} (g h : List (Entry A)) (a : List ℕ) (same : position_of g a ≡ position_of h a) where
  same_holds : Holds g a → Holds h a
  same_holds held =
      let n = held_node g a held in let p = position_of_node g a n.0 n.1 in held_at_position h a p.0 (sym same ∙ p.1)

  same_absent : node_at h a ≡ None → node_at g a ≡ None
  same_absent empty = not_held g a (λ held. (let k = rw empty at (same_holds held) in search (rules, k)))

module _ {A : Type 0} (known : List Bool) (g : List (Entry A)) where
  -- an entry that has parents in `stop_at known g` is unmarked, and has the same parents in `g`
  bare_parent : (mark : Bool) (entry : Entry A) (b : List ℕ) → Contains (bare_if mark entry).node.parents b → (mark ≡ false) × Contains entry.node.parents b
  bare_parent true entry b c = nothing_in_nil b c
  bare_parent false entry b c = (refl, c)

  stop_parent : (a b : List ℕ) → HasParent (stop_at known g) a b → IsUnmarked g known a × (HasParent g a b)
  stop_parent a b parent =
      let h = held_by (stop_at known g) a parent.0 parent.1 in
      let w = stopped_entry known g h.position h.entry h.at in
      let position : position_of g a ≡ Some h.position = sym (stop_position known g a) ∙ h.position_is in
      let is : node_at g a ≡ Some (w.0).node = node_at_position g a h.position position ∙ ap (option_map (λ (entry : Entry A). entry.node)) w.1 in
      let c : Contains (bare_if (get_or known h.position false) w.0).node.parents b =
      subst (λ (node : Node A). Contains node.parents b) (sym (ap (λ (entry : Entry A). entry.node) w.2 ∙ h.node_is)) parent.2 in
      let free = bare_parent (get_or known h.position false) w.0 b c in
      ((h.position, position, free.0), ((w.0).node, is, free.1))

  parent_left : (a b : List ℕ) → IsUnmarked g known a → HasParent g a b → HasParent (stop_at known g) a b
  parent_left a b free parent =
      let h = held_by g a parent.0 parent.1 in
      let same : free.0 ≡ h.position = same_Some free.0 h.position (sym free.1 ∙ h.position_is) in
      let is : get_or known h.position false ≡ false = subst (λ (p : ℕ). get_or known p false ≡ false) same free.2 in
      let node = node_at_position (stop_at known g) a h.position (stop_position known g a ∙ h.position_is) in
      let c = subst (λ (node : Node A). Contains node.parents b) (sym h.node_is) parent.2 in
      ((h.entry).node, rw (node, stop_slice known g h.position, is, h.at) refl, c)

  pub past_from : (a b : List ℕ) → Reaches (stop_at known g) a b → ReachesPast g known a b
  past_from a b here = there
  past_from a b (onward {b = c} parent more) = let s = stop_parent a c parent in further s.0 s.1 (past_from c b more)

  pub past_to : (a b : List ℕ) → ReachesPast g known a b → Reaches (stop_at known g) a b
  past_to a b there = here
  past_to a b (further {b = c} free parent more) = onward (parent_left a c free parent) (past_to c b more)

  pub stop_reaches : (a b : List ℕ) → Reaches (stop_at known g) a b → Reaches g a b
  stop_reaches a b here = here
  stop_reaches a b (onward {b = c} parent more) = onward (stop_parent a c parent).1 (stop_reaches c b more)

  -- a parent `b` of `a` is connected, or is also a parent of `a` in `stop_at known g`
  step_here : AreConnected g known → (a b : List ℕ) → HasParent g a b → IsConnected g b ⊎ HasParent (stop_at known g) a b
  step_here connected a b parent =
      let h = held_by g a parent.0 parent.1 in
      either_way (get_or known h.position false)
      (λ is.
      let f = connected h.position is in
      let same : (f.0).id ≡ a = ap (λ (e : Entry A). e.id) (same_Some f.0 h.entry (sym f.1 ∙ h.at)) ∙ h.id_is in
      inl (λ c r. f.2 c (subst (λ (x : List ℕ). Reaches g x c) (sym same) (onward parent r))))
      (λ is. inr (parent_left a b (h.position, h.position_is, is) parent))

  module _ (connected : AreConnected g known) (starts : List (List ℕ)) where
    goes_on : (a b : List ℕ) → SomeReaches (stop_at known g) starts a ⊎ IsConnected g a → HasParent g a b → SomeReaches (stop_at known g) starts b ⊎ IsConnected g b
    goes_on a b (inr f) parent = inr (λ c r. f c (onward parent r))
    goes_on a b (inl s) parent =
        elim (step_here connected a b parent) [
          | inl f ↦ inr f
          | inr p ↦ inl (some_reaches (stop_at known g) starts a b s p)
        ]

    reached_here : (a b : List ℕ) → Contains starts a → Reaches g a b → SomeReaches (stop_at known g) starts b ⊎ IsConnected g b
    reached_here a b c r =
        kept_along g (λ x. SomeReaches (stop_at known g) starts x ⊎ IsConnected g x) goes_on a b r (inl (a, c, here))

    pub misses : (marks : List Bool) (met : List ℕ) (lost : Option (List ℕ)) (parents : ℕ) → IsWalk (stop_at known g) starts marks met lost parents → Misses g starts lost
    misses marks met None parents walk = λ k d inside b r.
        elim (reached_here (get_or starts k d) b (Contains-get_or starts k d inside) r) [
          | inl s ↦ same_holds (stop_at known g) g b (stop_position known g b) (walk.has_met.lost_is b (reached_met (stop_at known g) starts walk.ids walk.levels b s))
          | inr f ↦ f b here
        ]
    misses marks met (Some b) parents walk =
        let is = walk.has_met.lost_is in
        let s = met_reached (stop_at known g) starts walk.ids walk.levels b is.0 in
        ((s.0, s.1, stop_reaches s.0 b s.2), same_absent g (stop_at known g) b (sym (stop_position known g b)) is.1)

-- ids are distinct in the graph in which marked objects have no parents
stop_none : {A : Type 0} (marks : List Bool) (g : List (Entry A)) (a : List ℕ) → node_at g a ≡ None → node_at (stop_at marks g) a ≡ None
stop_none marks g a empty = same_absent (stop_at marks g) g a (stop_position marks g a) empty

pub stop_differ : {A : Type 0} (marks : List Bool) (g : List (Entry A)) → IdsDiffer g → IdsDiffer (stop_at marks g)
stop_differ [] g differ = differ
stop_differ (mark ∷ marks) [] differ = tt
stop_differ (true ∷ marks) (entry ∷ g) differ = (stop_none marks g entry.id differ.0, stop_differ marks g differ.1)
stop_differ (false ∷ marks) (entry ∷ g) differ = (stop_none marks g entry.id differ.0, stop_differ marks g differ.1)

-- ---- the missing ids of a closed graph, and without marks

-- if each id of the graph is connected, only the given ids can be missing
pub held_misses : {A : Type 0} (g : List (Entry A)) (ids : List (List ℕ)) (o : Option (List ℕ)) → ((a : List ℕ) → Holds g a → IsConnected g a) → MatchOption o (All (Holds g) ids) (IsFirstAbsent g ids) → Misses g ids o
held_misses g ids None connected all = λ k d inside. connected (get_or ids k d) (all k d inside)
held_misses g ids (Some b) connected found =
    let there : Contains (found.front ++ b ∷ found.rest) b = Contains-append_right found.front (b ∷ found.rest) b (zero, omega arith, refl) in
    ((b, subst (λ (xs : List (List ℕ)). Contains xs b) (sym found.parts) there, here), found.absent)

pub nothing_connected : {A : Type 0} (g : List (Entry A)) → AreConnected g []
nothing_connected g p t = absurd (false≢true (sym (none_in p) ∙ t))
