-- The entries of a graph and the pairs of its map, also after the map is changed.
use Rattle.std.proofs.Common.{◌≡◌, ℕ, zero, suc, ◌≤◌, Bool, true, false, cond, nat_eq, List, [], ◌∷◌, length, Option, Some, None, refl, sym, ap, ◌∙◌, arith, ◌↔◌, ◌<◌, ◌++◌, take, All, IsTrue}
use Rattle.std.specs.List.{find, position, position_or_len, slice_get}
use Rattle.std.specs.Cmp.Lexicographic.{pointwise}
use Rattle.std.specs.Borrow.{Bor}
use Rattle.std.specs.Map.Iter.{deref_pair}
use Rattle.std.specs.Map.{lookup, keys_of, values_of}
use Rattle.std.specs.Option.{option_map, MatchOption}
use Rattle.std.proofs.lemmas.Cmp.{nat_list_eq_equiv}
use Rattle.std.proofs.lemmas.Option.{slice_get-map, none-some}
use Rattle.gobject.specs.declared.node.Node.{Node}
use Rattle.gobject.specs.declared.node.Entry.{Entry}
use Rattle.gobject.specs.Objects.{has_id, node_at, position_of, entry_of, IsShaped}
use Rattle.gdag.specs.Graphs.{entries_of, pairs_of, IsGraph, IsOrdered, Holds, HasIdsOf, max_nodes}
use Rattle.std.proofs.lemmas.List.{map-append, take-map}
use Rattle.indexmap.specs.IndexMap.{IndexMap, insert_entry}
use Rattle.indexmap.proofs.CallerLemmas.{insert_entry-new}
use Rattle.gname.specs.declared.formats.Format.{Format}
use Rattle.gdag.proofs.Growing.{graph_push, graph_take}
use Rattle.gdag.proofs.Ordering.{ordered_push, ordered_before, ordered_last}

same_test : (a b : List ℕ) → pointwise nat_eq a b ≡ pointwise nat_eq b a
same_test a b = nat_list_eq_equiv.symm a b

node_step : {A : Type 0} (b : Bool) (entry : Entry A) (found : Option (Entry A)) (rest : Option (Node A)) → rest ≡ option_map (λ (e : Entry A). e.node) found → cond b (Some entry.node) rest ≡ option_map (λ (e : Entry A). e.node) (cond b (Some entry) found)
node_step true entry found rest same = refl
node_step false entry found rest same = same

-- a look-up in the map finds the node of the entry with the id
pub node_at_pairs : {A : Type 0} (pairs : List (List ℕ × Node A)) (a : List ℕ) → lookup (pointwise nat_eq a) pairs ≡ node_at (entries_of pairs) a
node_at_pairs [] a = refl
node_at_pairs {A} (pair ∷ pairs) a =
    ap (λ b. cond b (Some pair.1) (lookup (pointwise nat_eq a) pairs)) (same_test a pair.0)
    ∙ node_step (pointwise nat_eq pair.0 a) (entry_of pair.0 pair.1) (find (has_id a) (entries_of pairs)) (lookup (pointwise nat_eq a) pairs) (node_at_pairs pairs a)

pub length_pairs : {A : Type 0} (pairs : List (List ℕ × Node A)) → length (entries_of pairs) ≡ length pairs
length_pairs [] = refl
length_pairs (pair ∷ pairs) = let e = length_pairs pairs in omega arith

length_keys : {A : Type 0} (pairs : List (List ℕ × Node A)) → length (keys_of pairs) ≡ length (entries_of pairs)
length_keys [] = refl
length_keys (pair ∷ pairs) = let e = length_keys pairs in omega arith

first_position : {A : Type 0} (pairs : List (List ℕ × Node A)) (a : List ℕ) → position_or_len (pointwise nat_eq a) (keys_of pairs) ≡ position_or_len (has_id a) (entries_of pairs)
first_position [] a = refl
first_position (pair ∷ pairs) a = rw (same_test a pair.0, first_position pairs a) refl

-- the index of an id in the map is the position of its entry
pub position_of_pairs : {A : Type 0} (pairs : List (List ℕ × Node A)) (a : List ℕ) → position (pointwise nat_eq a) (keys_of pairs) ≡ position_of (entries_of pairs) a
position_of_pairs pairs a = rw (first_position pairs a, length_keys pairs) refl

-- converting the pairs of a map to entries and back returns the same pairs
pub pairs_again : {A : Type 0} (pairs : List (List ℕ × Node A)) → pairs_of (entries_of pairs) ≡ pairs
pairs_again [] = refl
pairs_again (pair ∷ pairs) = ap (λ rest. pair ∷ rest) (pairs_again pairs)

-- the entry at a position consists of the id and the node of the pair at this position
pub entry_at_pair : {A : Type 0} (pairs : List (List ℕ × Node A)) (k : ℕ) → slice_get (entries_of pairs) k ≡ option_map (λ pair. entry_of pair.0 pair.1) (slice_get pairs k)
entry_at_pair pairs k = slice_get-map (λ pair. entry_of pair.0 pair.1) pairs k

-- the entry at a position has the parents of the node at this position in the map
pub parents_at_value : {A : Type 0} (pairs : List (List ℕ × Node A)) (k : ℕ) (node : Node A) → slice_get (values_of pairs) k ≡ Some node → option_map (λ (entry : Entry A). entry.node.parents) (slice_get (entries_of pairs) k) ≡ Some node.parents
parents_at_value {A} [] k node at = absurd (none-some node at)
parents_at_value {A} (pair ∷ pairs) zero node at = ap (λ (o : Option (Node A)). option_map (λ (n : Node A). n.parents) o) at
parents_at_value {A} (pair ∷ pairs) (suc k) node at = parents_at_value pairs k node at

pub past : {X : Type 0} (xs : List X) (k : ℕ) → None ≡ slice_get xs k → length xs ≤ k
past [] k none = omega arith
past (x ∷ xs) zero none = absurd (none-some x none)
past (x ∷ xs) (suc k) none = let h = past xs k none in omega arith

-- the result of a look-up by position, as an entry
pub at_pair : {A : Type 0} (pairs : List (List ℕ × Node A)) (k : ℕ) (found : Option (Bor (List ℕ) × Bor (Node A))) → option_map deref_pair found ≡ slice_get pairs k → MatchOption found (length (entries_of pairs) ≤ k) (λ pair. slice_get (entries_of pairs) k ≡ Some (entry_of pair.0.now pair.1.now))
at_pair pairs k None is = let n = length_pairs pairs in let h = past pairs k is in omega arith
at_pair pairs k (Some pair) is = entry_at_pair pairs k ∙ ap (option_map (λ pair. entry_of pair.0 pair.1)) (sym is)

-- ---- changes of the map

-- a pair with a new id is appended
pub pushed_pairs : {A S : Type 0} (m : IndexMap (List ℕ) (Node A) S) (new : List (List ℕ × Node A)) (entry : Entry A) → node_at (entries_of m.entries) entry.id ≡ None → new ≡ insert_entry (pointwise nat_eq) m.entries entry.id entry.node → entries_of new ≡ entries_of m.entries ++ entry ∷ []
pushed_pairs m new entry absent is =
    ap entries_of (is ∙ insert_entry-new (pointwise nat_eq) m entry.id entry.node (node_at_pairs m.entries entry.id ∙ absent))
    ∙ map-append (λ pair. entry_of pair.0 pair.1) m.entries ((entry.id, entry.node) ∷ [])

-- the first `n` pairs are the first `n` entries
pub taken_pairs : {A : Type 0} (pairs new : List (List ℕ × Node A)) (n : ℕ) → new ≡ take n pairs → entries_of new ≡ take n (entries_of pairs)
taken_pairs pairs new n is = ap entries_of is ∙ sym (take-map (λ pair. entry_of pair.0 pair.1) n pairs)

-- a graph stays valid, and its `ordered` flag correct, when an entry is appended
pub pushed : {A : Type 0} (format : Format) (g new : List (Entry A)) (entry : Entry A) (ordered : Bool) → new ≡ g ++ entry ∷ [] → IsGraph (record { format = format; entries = g }) → node_at g entry.id ≡ None → HasIdsOf format entry → IsShaped entry.node → length g < max_nodes → IsTrue ordered ↔ (IsOrdered g × All (Holds g) entry.node.parents) → IsGraph (record { format = format; entries = new }) × (IsTrue ordered ↔ IsOrdered new)
pushed {A} format g new entry ordered is graph absent ids shaped room flag =
    rw is (
      graph_push format g entry graph absent ids shaped room,
      (λ t. ordered_push g entry (flag.0 t).0 (flag.0 t).1, λ o. flag.1 (ordered_before g entry o, ordered_last g entry o)),
    )

-- a graph stays valid, and its `ordered` flag correct, when it is cut back
pub cut : {A : Type 0} (format : Format) (g new : List (Entry A)) (n : ℕ) (ordered : Bool) → new ≡ take n g → IsGraph (record { format = format; entries = g }) → IsTrue ordered ↔ IsOrdered (take n g) → IsGraph (record { format = format; entries = new }) × (IsTrue ordered ↔ IsOrdered new)
cut {A} format g new n ordered is graph flag =
    rw is (graph_take format g n graph, flag)
