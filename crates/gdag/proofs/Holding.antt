-- The node of an id in a graph, entry by entry.
use Rattle.std.proofs.Common.{◌≡◌, ◌⊎◌, inl, inr, ℕ, zero, suc, ◌<◌, true, false, List, [], ◌∷◌, length, IsSome, Option, Some, None, refl, sym, ap, ◌∙◌, arith}
use Rattle.std.specs.List.{position_or_len, slice_get}
use Rattle.std.specs.Option.{option_map}
use Rattle.std.proofs.lemmas.Slice.Eq.{bytes_eq-Decides}
use Rattle.std.proofs.lemmas.Option.{none-some, same_Some}
use Rattle.std.proofs.lemmas.Bool.{cases_Bool, false≢true}
use Rattle.std.proofs.lemmas.Bool.Decides.{nat_tests}
use Rattle.gobject.specs.declared.node.Node.{Node}
use Rattle.gobject.specs.declared.node.Entry.{Entry}
use Rattle.gobject.specs.Objects.{has_id, node_at, position_of, IdsDiffer}
use Rattle.gdag.specs.Graphs.{IsNode, Holds}

pub has_id_is : {A : Type 0} (a : List ℕ) (entry : Entry A) → has_id a entry ≡ true → entry.id ≡ a
has_id_is a entry e = (bytes_eq-Decides entry.id a).0 e

pub is_has_id : {A : Type 0} (a : List ℕ) (entry : Entry A) → entry.id ≡ a → has_id a entry ≡ true
is_has_id a entry e = (bytes_eq-Decides entry.id a).1 e

pub id_cases : {A : Type 0} (a : List ℕ) (entry : Entry A) → (has_id a entry ≡ true) ⊎ (has_id a entry ≡ false)
id_cases a entry = cases_Bool (has_id a entry)

pub node_here : {A : Type 0} (entry : Entry A) (g : List (Entry A)) (a : List ℕ) → has_id a entry ≡ true → node_at (entry ∷ g) a ≡ Some entry.node
node_here entry g a e = rw e refl

pub node_there : {A : Type 0} (entry : Entry A) (g : List (Entry A)) (a : List ℕ) → has_id a entry ≡ false → node_at (entry ∷ g) a ≡ node_at g a
node_there entry g a e = rw e refl

-- if a graph does not contain an id, its first entry has another id
pub absent_head : {A : Type 0} (entry : Entry A) (g : List (Entry A)) (a : List ℕ) → node_at (entry ∷ g) a ≡ None → has_id a entry ≡ false
absent_head entry g a none =
    elim (id_cases a entry) [
      | inl same ↦ absurd (none-some entry.node (sym none ∙ node_here entry g a same))
      | inr other ↦ other
    ]

pub absent_tail : {A : Type 0} (entry : Entry A) (g : List (Entry A)) (a : List ℕ) → node_at (entry ∷ g) a ≡ None → node_at g a ≡ None
absent_tail entry g a none = sym (node_there entry g a (absent_head entry g a none)) ∙ none

pub absent_at : {A : Type 0} (g : List (Entry A)) (a : List ℕ) (k : ℕ) (entry : Entry A) → node_at g a ≡ None → slice_get g k ≡ Some entry → entry.id ≡ a → ⊥
absent_at [] a k entry none at same = none-some entry at
absent_at (first ∷ g) a zero entry none at same =
    let is : first ≡ entry = same_Some first entry at in
    false≢true (sym (absent_head first g a none) ∙ is_has_id a first (ap (λ x. x.id) is ∙ same))
absent_at (first ∷ g) a (suc k) entry none at same = absent_at g a k entry (absent_tail first g a none) at same

-- if the ids are distinct, the position of an entry's id is the position of the entry
own_position_from : {A : Type 0} (g : List (Entry A)) (k : ℕ) (entry : Entry A) → IdsDiffer g → slice_get g k ≡ Some entry → (position_or_len (has_id entry.id) g ≡ k) × (k < length g)
own_position_from [] k entry differ at = absurd (none-some entry at)
own_position_from (first ∷ g) zero entry differ at =
    let is : first ≡ entry = same_Some first entry at in
    let same = is_has_id entry.id first (ap (λ x. x.id) is) in
    (rw same refl, omega arith)
own_position_from (first ∷ g) (suc k) entry differ at =
    let rest = own_position_from g k entry differ.1 at in
    elim (id_cases entry.id first) [
      | inl same ↦ absurd (absent_at g first.id k entry differ.0 at (sym (has_id_is entry.id first same)))
      | inr other ↦ (let e = rest.0 in rw other (omega (arith, e)), let h = rest.1 in omega arith)
    ]

pub own_position : {A : Type 0} (g : List (Entry A)) (k : ℕ) (entry : Entry A) → IdsDiffer g → slice_get g k ≡ Some entry → position_of g entry.id ≡ Some k
own_position g k entry differ at =
    let h = own_position_from g k entry differ at in
    let same = h.0 in let inside = h.1 in
    rw same (grind (arith, nat_tests))

pub some_is : {X : Type 0} (o : Option X) → IsSome o → (x : X) × (o ≡ Some x)
some_is None is = absurd (false≢true is)
some_is (Some x) is = (x, refl)

-- each id that a graph contains has a node
pub held_node : {A : Type 0} (g : List (Entry A)) (a : List ℕ) → Holds g a → (node : Node A) × IsNode g a node
held_node g a held = some_is (node_at g a) held

-- if `option_map` returns a value, the value comes from an element of the option
pub mapped_from : {X Y : Type 0} (f : X → Y) (o : Option X) (y : Y) → option_map f o ≡ Some y
    → (x : X) × (o ≡ Some x) × (f x ≡ y)
mapped_from f None y e = absurd (none-some y e)
mapped_from f (Some x) y e = (x, refl, same_Some (f x) y e)

pub none_is : {X : Type 0} (o : Option X) → ¬ (IsSome o) → o ≡ None
none_is None out = refl
none_is (Some x) out = absurd (out refl)

pub not_held : {A : Type 0} (g : List (Entry A)) (a : List ℕ) → ¬ (Holds g a) → node_at g a ≡ None
not_held g a out = none_is (node_at g a) out

-- an id has at most one node
pub one_node : {A : Type 0} (g : List (Entry A)) (a : List ℕ) (m n : Node A) → IsNode g a m → IsNode g a n → m ≡ n
one_node g a m n left right = same_Some m n (sym left ∙ right)
