-- The properties that a graph keeps when entries are inserted.
use Rattle.std.proofs.Common.{◌≡◌, inl, inr, ℕ, zero, suc, ◌+◌, ◌<◌, ◌≤◌, false, List, [], ◌∷◌, ◌++◌, length, get_or, take, All, Some, None, refl, sym, ap, ◌∙◌, subst, arith, append_assoc, drop, add-one}
use Rattle.std.specs.List.{slice_get}
use Rattle.std.specs.Option.{is_some}
use Rattle.std.proofs.lemmas.List.{length-append, append-nil, take_more, take-append-drop, length-take}
use Rattle.std.proofs.Math.Seq.{take-append_seam, drop-cons}
use Rattle.gdag.specs.declared.fault.GraphFault.{GraphFault}
use Rattle.std.proofs.lemmas.List.Elements.{All-push, All-take, All-cons, All-nil}
use Rattle.std.proofs.lemmas.Option.{same_Some, none-some, get_or_from_slice_get, slice_get_within}
use Rattle.std.proofs.lemmas.Bool.{false≢true}
use Rattle.gobject.specs.declared.node.Node.{Node}
use Rattle.gobject.specs.declared.node.Entry.{Entry}
use Rattle.gobject.specs.Objects.{has_id, node_at, IdsDiffer, IsShaped}
use Rattle.gdag.specs.Graphs.{History, Holds, IsNode, HasParent, HasIdsOf, IsGraph, max_nodes}
use Rattle.gdag.specs.Reach.{Reaches, here, onward, IsConnected, Grows, Keeps}
use Rattle.gdag.specs.Insert.{ComesIn, Inserts, IsRefused, IsCause}
use Rattle.gname.specs.declared.formats.Format.{Format}
use Rattle.gdag.proofs.Reaching.{kept_along, reaches_parent}
use Rattle.gdag.proofs.Holding.{held_node, has_id_is, is_has_id, id_cases, node_here, node_there, absent_head, absent_tail}

-- ---- nodes after entries are appended

pub node_in_front : {A : Type 0} (g more : List (Entry A)) (a : List ℕ) (node : Node A) → IsNode g a node → IsNode (g ++ more) a node
node_in_front [] more a node is = absurd (none-some node is)
node_in_front (entry ∷ g) more a node is =
    elim (id_cases a entry) [
      | inl same ↦ node_here entry (g ++ more) a same ∙ sym (node_here entry g a same) ∙ is
      | inr other ↦ node_there entry (g ++ more) a other ∙ node_in_front g more a node (sym (node_there entry g a other) ∙ is)
    ]

pub node_after : {A : Type 0} (g more : List (Entry A)) (a : List ℕ) → node_at g a ≡ None → node_at (g ++ more) a ≡ node_at more a
node_after [] more a absent = refl
node_after (entry ∷ g) more a absent =
    node_there entry (g ++ more) a (absent_head entry g a absent) ∙ node_after g more a (absent_tail entry g a absent)

pub node_at_end : {A : Type 0} (g : List (Entry A)) (entry : Entry A) → node_at g entry.id ≡ None → IsNode (g ++ entry ∷ []) entry.id entry.node
node_at_end g entry absent = node_after g (entry ∷ []) entry.id absent ∙ node_here entry [] entry.id (is_has_id entry.id entry refl)

pub other_id : {A : Type 0} (first entry : Entry A) → has_id entry.id first ≡ false → has_id first.id entry ≡ false
other_id first entry other =
    elim (id_cases first.id entry) [
      | inl same ↦ absurd (false≢true (sym other ∙ is_has_id entry.id first (sym (has_id_is first.id entry same))))
      | inr differs ↦ differs
    ]

differ_push : {A : Type 0} (g : List (Entry A)) (entry : Entry A) → IdsDiffer g → node_at g entry.id ≡ None → IdsDiffer (g ++ entry ∷ [])
differ_push [] entry differ absent = (refl, tt)
differ_push (first ∷ g) entry differ absent =
    let other = other_id first entry (absent_head first g entry.id absent) in (
      node_after g (entry ∷ []) first.id differ.0 ∙ node_there entry [] first.id other,
      differ_push g entry differ.1 (absent_tail first g entry.id absent),
    )

pub graph_push : {A : Type 0} (format : Format) (g : List (Entry A)) (entry : Entry A) → IsGraph (record { format = format; entries = g }) → node_at g entry.id ≡ None → HasIdsOf format entry → IsShaped entry.node → length g < max_nodes → IsGraph (record { format = format; entries = g ++ entry ∷ [] })
graph_push {A} format g entry graph absent ids shaped room = record {
  differ = differ_push g entry graph.differ absent;
  ids = All-push (HasIdsOf format) g entry graph.ids ids;
  shaped = All-push (λ (e : Entry A). IsShaped e.node) g entry graph.shaped shaped;
  few = let e = length-append g (entry ∷ []) in omega (arith, e);
}

absent_take : {A : Type 0} (g : List (Entry A)) (n : ℕ) (a : List ℕ) → node_at g a ≡ None → node_at (take n g) a ≡ None
absent_take g zero a absent = refl
absent_take [] (suc n) a absent = refl
absent_take (entry ∷ g) (suc n) a absent =
    node_there entry (take n g) a (absent_head entry g a absent) ∙ absent_take g n a (absent_tail entry g a absent)

differ_take : {A : Type 0} (g : List (Entry A)) (n : ℕ) → IdsDiffer g → IdsDiffer (take n g)
differ_take g zero differ = tt
differ_take [] (suc n) differ = tt
differ_take (entry ∷ g) (suc n) differ = (absent_take g n entry.id differ.0, differ_take g n differ.1)

-- the first entries of a valid graph form a valid graph
pub graph_take : {A : Type 0} (format : Format) (g : List (Entry A)) (n : ℕ) → IsGraph (record { format = format; entries = g }) → IsGraph (record { format = format; entries = take n g })
graph_take {A} format g n graph = record {
  differ = differ_take g n graph.differ;
  ids = All-take (HasIdsOf format) n g graph.ids;
  shaped = All-take (λ (e : Entry A). IsShaped e.node) n g graph.shaped;
  few = let e = graph.few in let l = length-take n g in omega arith;
}

-- ---- growth of graphs

pub grows_keeps : {A : Type 0} (g h : List (Entry A)) → Grows g h → Keeps g h
grows_keeps {A} g h grows a node is =
    rw grows.1 (node_in_front g grows.0 a node is)

pub keeps_held : {A : Type 0} (g h : List (Entry A)) → Keeps g h → (a : List ℕ) → Holds g a → Holds h a
keeps_held g h keeps a held = let n = held_node g a held in ap is_some (keeps a n.0 n.1)

pub keeps_reaching : {A : Type 0} (g h : List (Entry A)) → Keeps g h → (a b : List ℕ) → Reaches g a b → Reaches h a b
keeps_reaching g h keeps a b here = here
keeps_reaching g h keeps a b (onward {b = m} p r) =
    onward (p.0, keeps a p.0 p.1, p.2) (keeps_reaching g h keeps m b r)

-- an id that was connected in `g` reaches no new ids in `h`
pub reached_before : {A : Type 0} (g h : List (Entry A)) → Keeps g h → (a : List ℕ) → IsConnected g a → (b c : List ℕ) → Reaches g a b → HasParent h b c → Reaches g a c
reached_before {A} g h keeps a connected b c r p =
    let n = held_node g b (connected b r) in
    let same : n.0 ≡ p.0 = same_Some n.0 p.0 (sym (keeps b n.0 n.1) ∙ p.1) in
    reaches_parent g a b c r (n.0, n.1, rw (← same) at p.2)

pub keeps_connected : {A : Type 0} (g h : List (Entry A)) → Keeps g h → (a : List ℕ) → IsConnected g a → IsConnected h a
keeps_connected g h keeps a connected b r =
    let before = kept_along h (Reaches g a) (reached_before g h keeps a connected) a b r here in
    let n = held_node g b (connected b before) in
    rw (keeps b n.0 n.1) refl

-- ---- insertion of entries

-- an unchanged graph grows to itself
pub grows_none : {A : Type 0} (g h : List (Entry A)) → h ≡ g → Grows g h
grows_none g h same = ([], same ∙ sym (append-nil g))

pub comes_grows : {A : Type 0} (format : Format) (old : List (Entry A)) (entry : Entry A) (new : List (Entry A)) → ComesIn format old entry new → Grows old new
comes_grows format old entry new c =
    elim c.comes [ inl same ↦ grows_none old new same.1 | inr more ↦ (entry ∷ [], more.1) ]

pub grows_on : {A : Type 0} (g h k : List (Entry A)) → Grows g h → Grows h k → Grows g k
grows_on g h k a b = (a.0 ++ b.0, b.1 ∙ ap (λ x. x ++ b.0) a.1 ∙ append_assoc g a.0 b.0)

pub inserts_grows : {A : Type 0} (format : Format) (old entries new : List (Entry A)) → Inserts format old entries new → Grows old new
inserts_grows format old [] new is = grows_none old new is
inserts_grows format old (entry ∷ entries) new (next, c, rest) =
    grows_on old next new (comes_grows format old entry next c) (inserts_grows format next entries new rest)

pub comes_held : {A : Type 0} (format : Format) (old : List (Entry A)) (entry : Entry A) (new : List (Entry A)) → ComesIn format old entry new → IsNode new entry.id entry.node
comes_held {A} format old entry new c =
    let P : List (Entry A) → Type 0 = λ x. IsNode x entry.id entry.node in
    elim c.comes [
      | inl same ↦ subst P (sym same.1) same.0
      | inr more ↦ subst P (sym more.1) (node_at_end old entry more.0)
    ]

pub inserts_held : {A : Type 0} (format : Format) (old entries new : List (Entry A)) → Inserts format old entries new → All (λ entry. IsNode new entry.id entry.node) entries
inserts_held {A} format old [] new is = All-nil (λ (entry : Entry A). IsNode new entry.id entry.node)
inserts_held {A} format old (entry ∷ entries) new (next, c, rest) =
    let keeps = grows_keeps next new (inserts_grows format next entries new rest) in
    All-cons (λ (e : Entry A). IsNode new e.id e.node) entry entries (keeps entry.id entry.node (comes_held format old entry next c)) (inserts_held format next entries new rest)

-- inserting one more entry after a list
pub inserts_more : {A : Type 0} (format : Format) (old entries : List (Entry A)) (entry : Entry A) (mid new : List (Entry A)) → Inserts format old entries mid → ComesIn format mid entry new → Inserts format old (entries ++ entry ∷ []) new
inserts_more {A} format old [] entry mid new is c =
    let P : List (Entry A) → Type 0 = λ x. ComesIn format x entry new in (new, subst P is c, refl)
inserts_more format old (first ∷ entries) entry mid new (next, c, rest) d = (next, c, inserts_more format next entries entry mid new rest d)

-- if P holds for each element of a list, P holds for the element at position `k`
pub all_standing : {X : Type 0} (P : X → Type 0) (xs : List X) (k : ℕ) (x : X) → slice_get xs k ≡ Some x → All P xs → P x
all_standing P xs k x at all = subst P (get_or_from_slice_get xs k x x at) (all k x (slice_get_within xs k x at))

pub take_one : {X : Type 0} (xs : List X) (k : ℕ) (x : X) → k < length xs → x ≡ get_or xs k x → take (k + 1) xs ≡ take k xs ++ x ∷ []
take_one xs k x inside is = take_more xs k x inside ∙ ap (λ y. take k xs ++ y ∷ []) (sym is)

pub at_front : {X : Type 0} (xs : List X) (k : ℕ) (x : X) → k < length xs → x ≡ get_or xs k x → xs ≡ take k xs ++ x ∷ drop (k + 1) xs
at_front xs k x inside is =
    let rest : drop k xs ≡ x ∷ drop (k + 1) xs = rw add-one (drop-cons xs k x inside ∙ ap (λ y. y ∷ drop (suc k) xs) (sym is)) in
    sym (take-append-drop k xs) ∙ ap (λ ys. take k xs ++ ys) rest

-- the first entries of the longer graph are the old entries
pub cut_off : {A : Type 0} (format : Format) (old front mid : List (Entry A)) (n : ℕ) → Inserts format old front mid → n ≡ length old → take n mid ≡ old
cut_off format old front mid n comes is =
    let grown = inserts_grows format old front mid comes in
    rw (is, grown.1) (take-append_seam old grown.0)

pub refused : {A : Type 0} (format : Format) (old front : List (Entry A)) (entry : Entry A) (back mid : List (Entry A)) (fault : GraphFault) → Inserts format old front mid → IsCause format mid entry fault → IsRefused format old (front ++ entry ∷ back) fault
refused format old front entry back mid fault comes cause = record {
  front = front;
  entry = entry;
  back = back;
  parts = refl;
  so_far = mid;
  comes = comes;
  cause = cause;
}

pub grows_length : {A : Type 0} (old new : List (Entry A)) → Grows old new → length old ≤ length new
grows_length old new grown = let e = length-append old grown.0 in let l = ap length grown.1 in omega (arith, e, l)

-- cutting back to the old number of entries restores the old graph
pub cut_back_again : {A : Type 0} (old mid new back : History A) (front : List (Entry A)) (n : ℕ) → mid.format ≡ old.format → Inserts old.format old.entries front mid.entries → new ≡ mid → n ≡ length old.entries → back ≡ record { format = new.format; entries = take n new.entries } → back ≡ old
cut_back_again {A} old mid new back front n formats comes same is cut =
    let with : History A → History A = λ h. record { format = h.format; entries = take n h.entries } in
    let of : Format → History A = λ f. record { format = f; entries = take n mid.entries } in
    let made : List (Entry A) → History A = λ xs. record { format = old.format; entries = xs } in
    cut ∙ ap with same ∙ ap of formats ∙ ap made (cut_off old.format old.entries front mid.entries n comes is)
