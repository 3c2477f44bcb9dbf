-- The first missing object when a server is created, and changes to a server.
use Rattle.std.proofs.Common.{◌≡◌, ℕ, ◌+◌, ◌<◌, zero, suc, List, [], ◌∷◌, ◌++◌, length, get_or, take, drop, sym, ap}
use Rattle.std.proofs.Common.{◌∙◌, subst, append_assoc, append-nil, Some, None, All, Contains, ◌⊎◌, inl, inr, Bool}
use Rattle.std.proofs.Common.{Result, Ok, Err, refl}
use Rattle.std.proofs.lemmas.List.{take_more}
use Rattle.std.proofs.lemmas.List.Concat.{flat_map-append}
use Rattle.std.proofs.lemmas.List.Elements.{All-append, All-contains, All-map, Contains-append_left}
use Rattle.std.proofs.lemmas.List.Elements.{Contains-append_right, All-weaker}
use Rattle.std.proofs.lemmas.Option.{none-some, same_Some, slice_get-get_or, slice_get_read, slice_get_within, get_or_from_slice_get}
use Rattle.gobject.specs.declared.node.Entry.{Entry}
use Rattle.gobject.specs.Objects.{node_at, entry_of, IdsDiffer}
use Rattle.gdag.proofs.ClosedLemmas.{parents_entry}
use Rattle.gdag.proofs.Growing.{at_front, keeps_held}
use Rattle.gdag.specs.Graphs.{Holds, IsFirstAbsent, History, HoldsParents, IsGraph}
use Rattle.gdag.specs.Laws.{PositionsAreNodes, ClosedStays}
use Rattle.gdag.specs.declared.fault.GraphFault.{GraphFault}
use Rattle.gdag.specs.Insert.{AddsOne}
use Rattle.gdag.specs.Reach.{IsClosed, Keeps}
use Rattle.grefs.specs.RefLists.{RefList, IsRefs, SetsRef}
use Rattle.grefs.specs.declared.fault.RefsFault.{RefsFault}
use Rattle.grefs.specs.declared.head.Head.{Head}
use Rattle.ganswer.specs.Servers.{HoldsRefs, IsFirstDangling, parents_in, HoldsHead, IsServer, server_of}
use Rattle.ganswer.specs.steps.Answers.{DanglesAt}
use Rattle.std.specs.Prelude.{IfSome, Option, OnErr, OnOk, slice_get, option_map}
use Rattle.std.specs.Map.{values_of}
use Rattle.grefs.specs.declared.head.Head.TheVariants as heads
use Rattle.ganswer.proofs.FitLemmas.{unmap}

-- ---- missing parents

module _ {A : Type 0} where
  -- if all parents of the first `p` objects and of the next object satisfy `P`, all parents of the first `p + 1`
  -- objects do
  pub parents_more : (P : List ℕ → Type 0) (g : List (Entry A)) (p : ℕ) (parents : List (List ℕ)) → option_map (λ entry. entry.node.parents) (slice_get g p) ≡ Some parents
      → All P (parents_in (take p g)) → All P parents → All P (parents_in (take (p + 1) g))
  parents_more P g p parents at before here =
      let e = parents_entry g p parents at in
      let inside = slice_get_within g p e.0 e.1 in
      let grown : take (p + 1) g ≡ take p g ++ e.0 ∷ [] = take_more g p e.0 inside ∙ ap (λ (x : Entry A). take p g ++ x ∷ []) (get_or_from_slice_get g p e.0 e.0 e.1) in
      let last : parents_in (e.0 ∷ []) ≡ parents = append-nil e.0.node.parents ∙ e.2 in
      subst (All P)
      (sym (ap parents_in grown ∙ flat_map-append (λ (entry : Entry A). entry.node.parents) (take p g) (e.0 ∷ []) ∙ ap (λ (l : List (List ℕ)). parents_in (take p g) ++ l) last))
      (All-append P (parents_in (take p g)) parents before here)

  -- if no parent of the first `p` objects is missing, the first missing parent of the next object is the first missing
  -- parent of all objects
  pub first_of_all : (g : List (Entry A)) (p : ℕ) (parents : List (List ℕ)) (id : List ℕ) → option_map (λ entry. entry.node.parents) (slice_get g p) ≡ Some parents
      → All (Holds g) (parents_in (take p g)) → IsFirstAbsent g parents id → IsFirstAbsent g (parents_in g) id
  first_of_all g p parents id at before first =
      let e = parents_entry g p parents at in
      let inside = slice_get_within g p e.0 e.1 in
      let split = at_front g p e.0 inside (sym (get_or_from_slice_get g p e.0 e.0 e.1)) in
      let front = parents_in (take p g) in
      let rest = parents_in (drop (p + 1) g) in
      record {
        front = front ++ first.front;
        rest = first.rest ++ rest;
        parts =
            ap parents_in split
            ∙ flat_map-append (λ (entry : Entry A). entry.node.parents) (take p g) (e.0 ∷ drop (p + 1) g)
            ∙ ap (λ (l : List (List ℕ)). front ++ (l ++ rest)) (e.2 ∙ first.parts)
            ∙ ap (λ (l : List (List ℕ)). front ++ l) (append_assoc first.front (id ∷ first.rest) rest)
            ∙ sym (append_assoc front first.front (id ∷ (first.rest ++ rest)));
        held = All-append (Holds g) front first.front before first.held;
        absent = first.absent;
      }

  parents_at : (g : List (Entry A)) (p : ℕ) (entry : Entry A) (b : List ℕ) → slice_get g p ≡ Some entry → Contains entry.node.parents b → Contains (parents_in g) b
  parents_at [] p entry b at among = absurd (none-some entry at)
  parents_at (first ∷ g) zero entry b at among =
      Contains-append_left first.node.parents (parents_in g) b (subst (λ (e : Entry A). Contains e.node.parents b) (sym (same_Some first entry at)) among)
  parents_at (first ∷ g) (suc p) entry b at among = Contains-append_right first.node.parents (parents_in g) b (parents_at g p entry b at among)

  -- if the graph holds the parents of every object, the graph is closed
  pub closed_by_positions : (g : List (Entry A)) → PositionsAreNodes A → IdsDiffer g → All (Holds g) (parents_in g) → IsClosed g
  closed_by_positions g law differ held a b (node, is_node, among) =
      let place = ((law g differ).0 a node).0 is_node in
      All-contains (Holds g) (parents_in g) b held (parents_at g place.0 (entry_of a node) b place.1 among)

  -- ---- refs with missing ids

  pub holds_refs : (g : List (Entry A)) (refs : RefList) → All (λ (ref : List ℕ × List ℕ). Holds g ref.1) refs → HoldsRefs g refs
  holds_refs g refs held = All-map (Holds g) (λ (ref : List ℕ × List ℕ). ref.1) refs held

  pub first_dangling : (g : List (Entry A)) (refs : RefList) (k : ℕ) (ref : List ℕ × List ℕ) → k < length refs → ref ≡ get_or refs k ref
      → All (λ (ref : List ℕ × List ℕ). Holds g ref.1) (take k refs) → node_at g ref.1 ≡ None → IsFirstDangling g refs ref.0
  first_dangling g refs k ref inside is before missing = record {
    front = take k refs;
    id = ref.1;
    back = drop (k + 1) refs;
    parts = at_front refs k ref inside is;
    held = holds_refs g (take k refs) before;
    absent = missing;
  }

  pub dangles_at : (g : List (Entry A)) (refs : RefList) (k : ℕ) (ref : List ℕ × List ℕ) → k < length refs → ref ≡ get_or refs k ref
      → All (λ (ref : List ℕ × List ℕ). Holds g ref.1) (take k refs) → node_at g ref.1 ≡ None → DanglesAt g refs k
  dangles_at g refs k ref inside is before missing =
      let first = first_dangling g refs k ref inside is before missing in
      let here : slice_get refs k ≡ Some ref = slice_get_read refs (length refs) k ref refl inside is in
      (inside, λ other at. subst (λ (r : List ℕ × List ℕ). IsFirstDangling g refs r.0) (same_Some ref other (sym here ∙ at)) first)

  -- the name of the ref at index `k` is the name of the first ref with a missing id
  pub named_dangling : (g : List (Entry A)) (refs : RefList) (k : ℕ) (name : List ℕ) → DanglesAt g refs k
      → IfSome (slice_get refs k) (λ (ref : List ℕ × List ℕ). name ≡ ref.0) → IsFirstDangling g refs name
  named_dangling g refs k name dangles named =
      let ref : List ℕ × List ℕ = get_or refs k ([], []) in
      let at : slice_get refs k ≡ Some ref = slice_get-get_or refs k ([], []) dangles.0 in
      let same : name ≡ ref.0 = subst (λ (o : Option (List ℕ × List ℕ)). IfSome o (λ (r : List ℕ × List ℕ). name ≡ r.0)) at named in
      subst (IsFirstDangling g refs) (sym same) (dangles.1 ref at)

-- ---- valid servers after adding an object or setting a ref

module _ {A : Type 0} where
  head_stays : (g h : List (Entry A)) → Keeps g h → (head : Head A) → HoldsHead g head → HoldsHead h head
  head_stays g h keeps heads.None held = held
  head_stays g h keeps (heads.Id id) held = keeps_held g h keeps id held
  head_stays g h keeps (heads.Symref target) held = held

  from_each : (g : List (Entry A)) (old : RefList) (name id : List ℕ) → HoldsRefs g old → Holds g id → (new : RefList)
      → All (λ ref. (ref ≡ (name, id)) ⊎ Contains old ref) new → HoldsRefs g new
  from_each g old name id held is_held new each =
      let H : List ℕ × List ℕ → Type 0 = λ ref. Holds g ref.1 in
      All-map (Holds g) (λ (ref : List ℕ × List ℕ). ref.1) new
      (All-weaker (λ (ref : List ℕ × List ℕ). (ref ≡ (name, id)) ⊎ Contains old ref) H
      (λ ref side. elim side [
        | inl same ↦ subst H (sym same) is_held
        | inr there ↦ All-contains H old ref (unmap (Holds g) (λ (r : List ℕ × List ℕ). r.1) old held) there
      ]) new each)

  pub grown_or_same : ClosedStays A → (old new : History A) (refs : RefList) (head : Head A) (entry : Entry A) → IsServer (server_of old refs head) → HoldsParents old.entries entry
      → (result : Result Bool GraphFault) → AddsOne old entry new result → Keeps old.entries new.entries → IsGraph new → IsServer (server_of new refs head)
  grown_or_same law old new refs head entry is parents (Ok is_new) adds keeps graph = record {
    graph = graph;
    refs = is.refs;
    closed = law old.format old.entries entry new.entries is.closed parents adds.1;
    held = All-weaker (Holds old.entries) (Holds new.entries) (keeps_held old.entries new.entries keeps) (values_of refs) is.held;
    head = head_stays old.entries new.entries keeps head is.head;
    target = is.target;
  }
  grown_or_same law old new refs head entry is parents (Err fault) adds keeps graph = subst (λ (g : History A). IsServer (server_of g refs head)) (sym adds.0) is

  pub with_ref_or_same : (graph : History A) (old new : RefList) (head : Head A) (name id : List ℕ) → IsServer (server_of graph old head) → Holds graph.entries id
      → (result : Result Unit RefsFault) → OnOk result (SetsRef old new name id) → OnErr result (new ≡ old) → IsRefs new → IsServer (server_of graph new head)
  with_ref_or_same graph old new head name id is held (Ok done) sets same refs = record {
    graph = is.graph;
    refs = refs;
    closed = is.closed;
    held = from_each graph.entries old name id is.held held new sets.each;
    head = is.head;
    target = is.target;
  }
  with_ref_or_same graph old new head name id is held (Err fault) sets same refs = subst (λ (r : RefList). IsServer (server_of graph r head)) (sym same) is
