-- Marks after objects are added to a graph.
use Rattle.std.proofs.Common.{◌≡◌, ℕ, zero, suc, List, [], ◌∷◌, ◌++◌, true, false, Some, ap, sym, ◌∙◌, subst}
use Rattle.std.specs.List.{slice_get, slice_index_or}
use Rattle.std.proofs.lemmas.List.Elements.{All-contains}
use Rattle.std.proofs.lemmas.Option.{none-some, same_Some}
use Rattle.gobject.specs.declared.node.Entry.{Entry}
use Rattle.gobject.specs.Objects.{position_of}
use Rattle.gdag.specs.Laws.{ConnectedStaysConnected, GrowingKeeps}
use Rattle.gdag.specs.Reach.{IsConnected, Reaches}
use Rattle.gwalk.specs.Marks.{CoveringStays, MarksStayConnected}
use Rattle.gdag.proofs.Holding.{own_position}
use Rattle.gdag.proofs.Reaching.{position_at}

slice_in_front : {X : Type 0} (xs ys : List X) (position : ℕ) (x : X) → slice_get xs position ≡ Some x → slice_get (xs ++ ys) position ≡ Some x
slice_in_front [] ys position x at = absurd (none-some x at)
slice_in_front (y ∷ xs) ys zero x at = at
slice_in_front (y ∷ xs) ys (suc position) x at = slice_in_front xs ys position x at

pub stay_connected : {A : Type 0} → GrowingKeeps A → ConnectedStaysConnected A → MarksStayConnected A
stay_connected {A} keeps law g h marks grows connected position t =
    let f = connected position t in
    let at = subst (λ (l : List (Entry A)). slice_get l position ≡ Some f.0) (sym grows.1) (slice_in_front g grows.0 position f.0 f.1) in
    (f.0, at, (law g h (f.0).id (keeps g h grows) f.2).0)

-- marks still cover the same connected ids, because these ids reach the same ids at the same positions
pub covering_stays : {A : Type 0} → GrowingKeeps A → ConnectedStaysConnected A → CoveringStays A
covering_stays {A} keeps law g h ids marks grows differ connected covers position entry at reaches =
    let a = reaches.0 in
    let whole = All-contains (IsConnected g) ids a connected reaches.1 in
    let path = (law g h a (keeps g h grows) whole).1 entry.id reaches.2 in
    let was = position_at g entry.id (whole entry.id path) in
    let there = subst (λ (l : List (Entry A)). slice_get l was.0 ≡ Some was.1) (sym grows.1) (slice_in_front g grows.0 was.0 was.1 was.2) in
    let same : was.0 ≡ position =
    same_Some was.0 position (sym (own_position h was.0 was.1 differ there) ∙ ap (position_of h) was.3 ∙ own_position h position entry differ at) in
    subst (λ (p : ℕ). slice_index_or marks p false ≡ true) same
    (covers was.0 was.1 was.2 (a, reaches.1, subst (λ (b : List ℕ). Reaches g a b) (sym was.3) path))
