-- Positions of ids, the parents at a position, and marks by position.
use Rattle.std.proofs.Common.{◌≡◌, ◌⊎◌, inl, inr, ℕ, zero, suc, ◌+◌, ◌<◌, Bool, true, false, List, [], ◌∷◌, ◌++◌, length, get_or, set, take, Contains, Option, Some, None, max, refl, sym, ap, ◌∙◌, subst, arith, replicate}
use Rattle.std.specs.List.{slice_get}
use Rattle.std.specs.Option.{option_map}
use Rattle.std.proofs.lemmas.List.{get_or-set_same, get_or-set_other, length-set}
use Rattle.std.proofs.lemmas.List.Elements.{All-contains, Contains-append_left, Contains-push, Contains-push_cases}
use Rattle.std.proofs.lemmas.Option.{none-some, same_Some, slice_get_cases}
use Rattle.std.specs.Ordering.{ord_max, nat_cmp}
use Rattle.std.proofs.lemmas.Bool.{false≢true, cases_eq}
use Rattle.std.proofs.lemmas.Bool.Decides.{nat_tests}
use Rattle.gobject.specs.declared.node.Node.{Node}
use Rattle.gobject.specs.declared.node.Entry.{Entry}
use Rattle.gobject.specs.Objects.{position_of, IdsDiffer}
use Rattle.gdag.specs.Graphs.{History, Holds, HasParent, IsNode, IsGraph, IsOrdered}
use Rattle.gwalk.specs.steps.Passes.{IsEdge, IsInOrder, IsPositionOf, MarksAll, is_marked}
use Rattle.gdag.proofs.Growing.{take_one}
use Rattle.gdag.proofs.Holding.{own_position}
use Rattle.gdag.proofs.IdLists.{only_one}
use Rattle.gdag.proofs.Reaching.{position_inside, node_at_position, position_at}

pub one_position : {A : Type 0} (g : List (Entry A)) (a : List ℕ) (p q : ℕ) → position_of g a ≡ Some p → position_of g a ≡ Some q → p ≡ q
one_position g a p q e f = same_Some p q (sym e ∙ f)

-- each position below the length of a graph has an entry
pub entry_there : {A : Type 0} (g : List (Entry A)) (p : ℕ) → p < length g → (entry : Entry A) × (slice_get g p ≡ Some entry)
entry_there {A} g p inside =
    elim (slice_get_cases g p).1 [ inl w ↦ (w.0, w.2) | inr w ↦ absurd (omega (arith, w.0)) ]

-- ---- parents

-- the parents at the position of an id are the parents of its node
pub parents_are : {A : Type 0} (g : List (Entry A)) (a : List ℕ) (p : ℕ) (parents : List (List ℕ)) → position_of g a ≡ Some p → option_map (λ entry. entry.node.parents) (slice_get g p) ≡ Some parents → (node : Node A) × IsNode g a node × (node.parents ≡ parents)
parents_are {A} g a p parents e are =
    let there = entry_there g p (position_inside g a p e) in
    let node : Node A = (there.0).node in
    let is : IsNode g a node = node_at_position g a p e ∙ ap (option_map (λ (entry : Entry A). entry.node)) there.1 in
    let same : Some node.parents ≡ Some parents = ap (option_map (λ (entry : Entry A). entry.node.parents)) (sym there.1) ∙ are in
    (node, is, same_Some node.parents parents same)

module _ {A : Type 0} (g : List (Entry A)) (p : ℕ) (parents : List (List ℕ)) (are : option_map (λ entry. entry.node.parents) (slice_get g p) ≡ Some parents) where
  -- the position of a parent is a position of one of the parents
  pub edge_position : (q : ℕ) → IsEdge g p q → IsPositionOf g parents q
  edge_position q e =
      let n = parents_are g e.child p parents e.child_at are in
      let same : n.0 ≡ e.edge.0 = same_Some n.0 e.edge.0 (sym n.1 ∙ e.edge.1) in
      let P : List (List ℕ) → Type 0 = λ xs. Contains xs e.parent in
      record { id = e.parent; among = subst P (ap (λ (node : Node A). node.parents) (sym same) ∙ n.2) e.edge.2; at = e.parent_at }

  pub position_edge : (a : List ℕ) (q : ℕ) → position_of g a ≡ Some p → IsPositionOf g parents q → IsEdge g p q
  position_edge a q at x =
      let n = parents_are g a p parents at are in
      let P : List (List ℕ) → Type 0 = λ xs. Contains xs x.id in
      record { child = a; parent = x.id; edge = (n.0, n.1, subst P (sym n.2) x.among); child_at = at; parent_at = x.at }

-- ---- the order

-- a valid graph in which each entry comes after its parents
pub in_order : {A : Type 0} (g : History A) → IsGraph g → IsOrdered g.entries → IsInOrder g.entries
in_order g graph ordered = record { differ = graph.differ; shaped = graph.shaped; few = graph.few; ordered = ordered }

-- each parent has a lower position than its child
abbrev pub HasParentsFirst : {A : Type 0} → List (Entry A) → Type 0
HasParentsFirst g = (a b : List ℕ) (p : ℕ) → position_of g a ≡ Some p → HasParent g a b → (q : ℕ) × (position_of g b ≡ Some q) × (q < p)

taken : {X : Type 0} (xs : List X) (n p : ℕ) (x : X) → slice_get (take n xs) p ≡ Some x → (p < n) × (slice_get xs p ≡ Some x)
taken xs zero p x at = absurd (none-some x at)
taken [] (suc n) p x at = absurd (none-some x at)
taken (y ∷ xs) (suc n) zero x at = (omega arith, at)
taken (y ∷ xs) (suc n) (suc p) x at = let h = taken xs n p x at in let low = h.0 in (omega arith, h.1)

-- an id of the first `n` entries has a position below `n`
held_before : {A : Type 0} (g : List (Entry A)) (n : ℕ) (b : List ℕ) → Holds (take n g) b → IdsDiffer g → (q : ℕ) × (position_of g b ≡ Some q) × (q < n)
held_before {A} g n b held differ =
    let at = position_at (take n g) b held in
    let low = taken g n at.0 at.1 at.2 in
    (at.0, subst (λ (a : List ℕ). position_of g a ≡ Some at.0) at.3 (own_position g at.0 at.1 differ low.1), low.0)

pub parents_first : {A : Type 0} (g : List (Entry A)) → IsInOrder g → HasParentsFirst g
parents_first {A} g order a b p at h =
    let there = entry_there g p (position_inside g a p at) in
    let is : Some (there.0).node ≡ Some h.0 = sym (node_at_position g a p at ∙ ap (option_map (λ (entry : Entry A). entry.node)) there.1) ∙ h.1 in
    let same = same_Some (there.0).node h.0 is in
    let P : List (List ℕ) → Type 0 = λ xs. Contains xs b in
    let among = subst P (ap (λ (node : Node A). node.parents) (sym same)) h.2 in
    let held = All-contains (λ x. Holds (take p g) x) (there.0).node.parents b (order.ordered p there.0 there.1) among in
    held_before g p b held order.differ

-- a parent has a lower position
pub edge_down : {A : Type 0} (g : List (Entry A)) (p q : ℕ) → HasParentsFirst g → IsEdge g p q → q < p
edge_down g p q ordered e =
    let o = ordered e.child e.parent p e.child_at e.edge in
    let same : q ≡ o.0 = one_position g e.parent q o.0 e.parent_at o.1 in
    let below : o.0 < p = o.2 in
    omega arith

pub parents_below : {A : Type 0} (g : List (Entry A)) (p : ℕ) (parents : List (List ℕ)) → IsInOrder g → p < length g → option_map (λ entry. entry.node.parents) (slice_get g p) ≡ Some parents → (q : ℕ) → IsPositionOf g parents q → q < p
parents_below g p parents order inside are q x =
    let there = entry_there g p inside in
    let at = own_position g p there.0 order.differ there.1 in
    edge_down g p q (parents_first g order) (position_edge g p parents are (there.0).id q at x)

-- ---- marks

pub set_cases : (marks : List Bool) (p q : ℕ) → is_marked (set marks q true) p ≡ true → (is_marked marks p ≡ true) ⊎ (q ≡ p)
set_cases marks p q m =
    elim (cases_eq q p) [
      | inl same ↦ inr same
      | inr other ↦ inl (sym (get_or-set_other marks q p true false (λ h. other (sym h))) ∙ m)
    ]

pub set_there : (marks : List Bool) (q : ℕ) → q < length marks → is_marked (set marks q true) q ≡ true
set_there marks q inside = get_or-set_same marks q true false inside

-- a marked position is below the end of the marks
pub marked_inside : (marks : List Bool) (p : ℕ) → is_marked marks p ≡ true → p < length marks
marked_inside [] p m = absurd (false≢true m)
marked_inside (mark ∷ marks) zero m = omega arith
marked_inside (mark ∷ marks) (suc p) m = let h = marked_inside marks p m in omega arith

pub set_kept : (marks : List Bool) (p q : ℕ) → is_marked marks p ≡ true → is_marked (set marks q true) p ≡ true
set_kept marks p q m =
    let inside = marked_inside marks p m in
    elim (cases_eq q p) [
      | inl same ↦ ap (λ n. get_or (set marks q true) n false) (sym same) ∙ set_there marks q (omega arith)
      | inr other ↦ get_or-set_other marks q p true false (λ h. other (sym h)) ∙ m
    ]

pub set_elsewhere : (marks : List Bool) (p q : ℕ) → (p ≡ q → ⊥) → is_marked (set marks q true) p ≡ is_marked marks p
set_elsewhere marks p q other = get_or-set_other marks q p true false other

pub none_marked : (n p : ℕ) → is_marked (replicate n false) p ≡ true → ⊥
none_marked zero p m = false≢true m
none_marked (suc n) zero m = false≢true m
none_marked (suc n) (suc p) m = none_marked n p m

before_or_here : {A : Type 0} (g : List (Entry A)) (ids : List (List ℕ)) (a : List ℕ) (p : ℕ) →
    IsPositionOf g (ids ++ a ∷ []) p → IsPositionOf g ids p ⊎ (position_of g a ≡ Some p)
before_or_here g ids a p x =
    elim (Contains-push_cases ids a x.id x.among) [
      | inl c ↦ inl (record { id = x.id; among = c; at = x.at })
      | inr e ↦ inr (subst (λ (b : List ℕ). position_of g b ≡ Some p) (sym e) x.at)
    ]

module _ {A : Type 0} (g : List (Entry A)) (ids : List (List ℕ)) (old new : List Bool) (a : List ℕ) (before : MarksAll g ids old new) where
  wider : (p : ℕ) → IsPositionOf g ids p → IsPositionOf g (ids ++ a ∷ []) p
  wider p x = record { id = x.id; among = Contains-append_left ids (a ∷ []) x.id x.among; at = x.at }

  only_wider : (p : ℕ) → (is_marked old p ≡ true) ⊎ IsPositionOf g ids p → (is_marked old p ≡ true) ⊎ IsPositionOf g (ids ++ a ∷ []) p
  only_wider p (inl m) = inl m
  only_wider p (inr x) = inr (wider p x)

  -- the marks are unchanged if the id has no position below the end of the marks
  pub marks_stay : ((p : ℕ) → position_of g a ≡ Some p → p < length old → ⊥) → MarksAll g (ids ++ a ∷ []) old new
  marks_stay never = record {
    long = before.long;
    kept = before.kept;
    marked = λ p x inside. elim (before_or_here g ids a p x) [ inl y ↦ before.marked p y inside | inr e ↦ absurd (never p e inside) ];
    only = λ p m. only_wider p (before.only p m);
  }

  pub marks_more : (q : ℕ) → position_of g a ≡ Some q → MarksAll g (ids ++ a ∷ []) old (set new q true)
  marks_more q at = record {
    long = length-set new q true ∙ before.long;
    kept = λ p m. set_kept new p q (before.kept p m);
    marked = λ p x within. elim (before_or_here g ids a p x) [
      | inl y ↦ set_kept new p q (before.marked p y within)
      | inr e ↦ ap (λ n. get_or (set new q true) n false) (one_position g a p q e at) ∙ set_there new q (let same = one_position g a p q e at in let l = before.long in omega arith)
    ];
    only = λ p m. elim (set_cases new p q m) [
      | inl m ↦ only_wider p (before.only p m)
      | inr e ↦ inr (record { id = a; among = Contains-push ids a; at = at ∙ ap Some e })
    ];
  }

-- ---- one id after another

module _ {A : Type 0} (g : List (Entry A)) (ids : List (List ℕ)) (i : ℕ) (a : List ℕ) (inside : i < length ids) (is : a ≡ get_or ids i a) where
  -- the position of the id at index `i`
  pub item_position : (p : ℕ) → position_of g a ≡ Some p → IsPositionOf g ids p
  item_position p at = record { id = a; among = (i, inside, sym is); at = at }

  pub marks_next : (old new : List Bool) (p : ℕ) → MarksAll g (take i ids) old new → position_of g a ≡ Some p → MarksAll g (take (i + 1) ids) old (set new p true)
  marks_next old new p before at = rw (take_one ids i a inside is) (marks_more g (take i ids) old new a before p at)

  pub marks_past : (old new : List Bool) → MarksAll g (take i ids) old new → position_of g a ≡ None → MarksAll g (take (i + 1) ids) old new
  marks_past old new before absent = rw (take_one ids i a inside is) (marks_stay g (take i ids) old new a before (λ p e _. none-some p (sym absent ∙ e)))

  -- a position of the first `i + 1` ids is a position of the first `i` ids or of the next id
  pub position_next : (p : ℕ) → IsPositionOf g (take (i + 1) ids) p → IsPositionOf g (take i ids) p ⊎ (position_of g a ≡ Some p)
  position_next p x =
      let P : List (List ℕ) → Type 0 = λ xs. IsPositionOf g xs p in
      before_or_here g (take i ids) a p (subst P (take_one ids i a inside is) x)

pub is_none : {X : Type 0} (o : Option X) → ((p : X) → o ≡ Some p → ⊥) → o ≡ None
is_none None never = refl
is_none (Some p) never = absurd (never p refl)

-- the result of reading a mark from a slice
pub read_mark : (marks slice : List Bool) (p : ℕ) (r b : Bool) → slice ≡ marks → r ≡ is_marked slice p → r ≡ b → is_marked marks p ≡ b
read_mark marks slice p r b same read is = ap (λ xs. is_marked xs p) (sym same) ∙ sym read ∙ is

pub max_is : (a b m : ℕ) → m ≡ ord_max nat_cmp a b → m ≡ max a b
max_is a b m e = grind (arith, nat_tests)

-- a position of a list of one id is the position of that id
pub one_item : {A : Type 0} (g : List (Entry A)) (a : List ℕ) (p : ℕ) → IsPositionOf g (a ∷ []) p → position_of g a ≡ Some p
one_item g a p x = ap (position_of g) (sym (only_one a x.id x.among)) ∙ x.at
