-- Each entry of a graph could be appended to the entries before it.
use Rattle.std.proofs.Common.{◌≡◌, ℕ, List, [], ◌∷◌, ◌++◌, All, None, refl, ◌∙◌, arith, false}
use Rattle.std.proofs.lemmas.List.{length-append}
use Rattle.std.proofs.lemmas.List.Elements.{All-head, All-tail}
use Rattle.gobject.specs.declared.node.Entry.{Entry}
use Rattle.gobject.specs.Objects.{IdsDiffer, IsShaped, has_id, node_at}
use Rattle.gdag.specs.Graphs.{HasIdsOf}
use Rattle.gdag.specs.Laws.{EntriesComeInOrder}
use Rattle.gdag.proofs.Growing.{other_id}
use Rattle.gdag.proofs.Holding.{absent_head, absent_tail, node_there}

pub all_at : {X : Type 0} (P : X → Type 0) (front : List X) (x : X) (back : List X) → All P (front ++ x ∷ back) → P x
all_at P [] x back all = All-head P x back all
all_at P (y ∷ front) x back all = all_at P front x back (All-tail P y (front ++ x ∷ back) all)

other_than_absent : {A : Type 0} (front : List (Entry A)) (x : Entry A) (back : List (Entry A)) (a : List ℕ) → node_at (front ++ x ∷ back) a ≡ None → has_id a x ≡ false
other_than_absent [] x back a none = absent_head x back a none
other_than_absent (y ∷ front) x back a none = other_than_absent front x back a (absent_tail y (front ++ x ∷ back) a none)

new_after_front : {A : Type 0} (front : List (Entry A)) (x : Entry A) (back : List (Entry A)) → IdsDiffer (front ++ x ∷ back) → node_at front x.id ≡ None
new_after_front [] x back differ = refl
new_after_front (y ∷ front) x back differ =
    node_there y front x.id (other_id x y (other_than_absent front x back y.id differ.0)) ∙ new_after_front front x back differ.1

pub entries_come_in_order : (A : Type 0) → EntriesComeInOrder A
entries_come_in_order A format front entry back graph = record {
  absent = new_after_front front entry back graph.differ;
  ids = all_at (HasIdsOf format) front entry back graph.ids;
  shaped = all_at (λ (e : Entry A). IsShaped e.node) front entry back graph.shaped;
  room = let few = graph.few in omega (arith, length-append front (entry ∷ back), few);
}
