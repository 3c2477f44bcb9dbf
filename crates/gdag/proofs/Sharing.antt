-- Graphs that agree, and the ids that a list of entries adds to the other graph.
use Rattle.std.proofs.Common.{◌≡◌, ◌⊎◌, inl, inr, ℕ, zero, suc, List, [], ◌∷◌, ◌++◌, get_or, All, Contains, Option, Some, None, refl, sym, ap, ◌∙◌, subst, arith}
use Rattle.std.specs.List.{slice_get}
use Rattle.std.specs.Option.{is_some, option_map}
use Rattle.std.proofs.lemmas.Option.{same_Some, none-some, slice_get-get_or}
use Rattle.std.proofs.lemmas.Bool.{cases_Bool, false≢true}
use Rattle.std.proofs.lemmas.List.Elements.{All-contains, Contains-append_right, Contains-get_or}
use Rattle.gobject.specs.declared.node.Node.{Node}
use Rattle.gobject.specs.declared.node.Entry.{Entry}
use Rattle.gobject.specs.Objects.{node_at, entry_of, HasIds, IdsDiffer, IsShaped}
use Rattle.gobject.specs.Packs.{AreEntries}
use Rattle.gname.specs.Laws.{IdsHaveOneFormat}
use Rattle.gname.specs.declared.formats.Format.{Format}
use Rattle.gdag.specs.Graphs.{History, IsNode, IsGraph, Holds, HoldsParents, HasIdsOf, HasParent}
use Rattle.gdag.specs.Reach.{Reaches, here, onward, SomeReaches, IsConnected, IsClosed, Agree, Keeps}
use Rattle.gdag.specs.Insert.{ComesIn, Inserts, Lists, AddsOnly, AddsOnlyParents}
use Rattle.gdag.specs.Peeling.{IsTagOf, IsCommit, Tags, PeelsTo}
use Rattle.gdag.specs.Selecting.{Selects, none, keep, skip}
use Rattle.gdag.specs.Sending.{IsToSend, IsListToSend}
use Rattle.gdag.specs.Laws.{AgreesWith, HasAll}
use Rattle.gdag.proofs.Reaching.{kept_along, reaches_parent, connected_in_closed, position_at, node_at_position, standing_among}
use Rattle.gdag.proofs.PeelLemmas.{peel_ends}
use Rattle.gdag.proofs.Holding.{one_node, held_node, own_position, has_id_is, id_cases, node_here, node_there, absent_head, absent_tail}
use Rattle.gdag.proofs.IdLists.{nothing_in_nil, contains_cases}
use Rattle.gdag.proofs.Choosing.{chosen_or_not, chosen_all, chosen_few}
use Rattle.gdag.proofs.Growing.{grows_keeps, comes_grows, inserts_grows, inserts_held, node_in_front, node_after, reached_before}

-- a graph contains each id that has a node
pub holds_node : {A : Type 0} (g : List (Entry A)) (a : List ℕ) (node : Node A) → IsNode g a node → Holds g a
holds_node g a node is = ap is_some is

-- ---- closed graphs and connected ids

pub closed_from_connected : {A : Type 0} (g : List (Entry A)) → ((a : List ℕ) → Holds g a → IsConnected g a) → IsClosed g
closed_from_connected g connected a b parent = connected a (holds_node g a parent.0 parent.1) b (onward parent here)

pub reached_already : {A : Type 0} (g h : List (Entry A)) (a b : List ℕ) → Keeps g h → IsConnected g a → Reaches h a b → Reaches g a b
reached_already g h a b keeps connected r = kept_along h (Reaches g a) (reached_before g h keeps a connected) a b r here

-- ---- graphs that agree

-- if graph `h` contains `a`, each parent of `a` in graph `g` is also a parent of `a` in `h`
pub parent_shared : {A : Type 0} (g h : List (Entry A)) (a b : List ℕ) → Agree g h → Holds h a → HasParent g a b → HasParent h a b
parent_shared {A} g h a b agree held parent =
    let there = held_node h a held in
    let same : parent.0 ≡ there.0 = agree a parent.0 there.0 parent.1 there.1 in
    (there.0, there.1, rw same at parent.2)

pub path_shared : {A : Type 0} (g h : List (Entry A)) (a b : List ℕ) → Agree g h → IsConnected h a → Reaches g a b → Reaches h a b
path_shared g h a b agree connected r =
    kept_along g (Reaches h a) (λ x y way parent. reaches_parent h a x y way (parent_shared g h x y agree (connected x way) parent)) a b r here

-- ---- the entries that an insertion adds

pub entry_is : {A : Type 0} (entry : Entry A) (a : List ℕ) (node : Node A) → entry.id ≡ a → entry.node ≡ node → entry ≡ entry_of a node
entry_is entry a node ids nodes = ap (λ x. entry_of x entry.node) ids ∙ ap (entry_of a) nodes

listed_first : {A : Type 0} (entry : Entry A) (entries : List (Entry A)) (a : List ℕ) (node : Node A) → entry.id ≡ a → entry.node ≡ node → Lists (entry ∷ entries) a node
listed_first {A} entry entries a node ids nodes =
    (0, omega arith, entry_is entry a node ids nodes)

pub comes_only : {A : Type 0} (old : List (Entry A)) (entry : Entry A) (new entries : List (Entry A)) (a : List ℕ) (node : Node A) → (IsNode old entry.id entry.node × (new ≡ old)) ⊎ ((node_at old entry.id ≡ None) × (new ≡ old ++ entry ∷ [])) → IsNode new a node → IsNode old a node ⊎ Lists (entry ∷ entries) a node
comes_only {A} old entry new entries a node (inl c) is = inl (ap (λ x. node_at x a) (sym c.1) ∙ is)
comes_only {A} old entry new entries a node (inr c) is = by (node_at old a) refl
  where
    at_end : IsNode (old ++ entry ∷ []) a node
    at_end = ap (λ x. node_at x a) (sym c.1) ∙ is

    by : (o : Option (Node A)) → node_at old a ≡ o → IsNode old a node ⊎ Lists (entry ∷ entries) a node
    by (Some other) found = inl (found ∙ ap Some (one_node (old ++ entry ∷ []) a other node (node_in_front old (entry ∷ []) a other found) at_end))
    by None absent =
        let last : node_at (entry ∷ []) a ≡ Some node = sym (node_after old (entry ∷ []) a absent) ∙ at_end in
        elim (id_cases a entry) [
          | inl same ↦ inr (listed_first entry entries a node (has_id_is a entry same) (same_Some entry.node node (sym (node_here entry [] a same) ∙ last)))
          | inr other ↦ absurd (none-some node (sym (node_there entry [] a other) ∙ last))
        ]

listed_later : {A : Type 0} (entry : Entry A) (entries : List (Entry A)) (a : List ℕ) (node : Node A) → Lists entries a node → Lists (entry ∷ entries) a node
listed_later entry entries a node later = Contains-append_right (entry ∷ []) entries (entry_of a node) later

pub adds_only : {A : Type 0} (format : Format) (old entries new : List (Entry A)) → Inserts format old entries new → AddsOnly old entries new
adds_only format old [] new same a node is = inl (ap (λ x. node_at x a) (sym same) ∙ is)
adds_only format old (entry ∷ entries) new (next, comes, rest) a node is =
    elim (adds_only format next entries new rest a node is) [
      | inl before ↦ comes_only old entry next entries a node comes.comes before
      | inr later ↦ inr (listed_later entry entries a node later)
    ]

pub adds_only_parents : {A : Type 0} (old entries new : List (Entry A)) → AddsOnly old entries new → AddsOnlyParents old entries new
adds_only_parents old entries new only a b parent =
    elim (only a parent.0 parent.1) [
      | inl is ↦ inl (parent.0, is, parent.2)
      | inr listed ↦ inr (parent.0, listed, parent.2)
    ]

-- a closed graph stays closed when an entry is inserted and the graph contains all parents of that entry
pub closed_stays : {A : Type 0} (format : Format) (g : List (Entry A)) (entry : Entry A) (h : List (Entry A)) → IsClosed g → HoldsParents g entry → ComesIn format g entry h → IsClosed h
closed_stays {A} format g entry h closed held comes a b parent =
    let keeps = grows_keeps g h (comes_grows format g entry h comes) in
    let kept : Holds g b → Holds h b = λ there. let n = held_node g b there in holds_node h b n.0 (keeps b n.0 n.1) in
    elim (comes_only g entry h [] a parent.0 comes.comes parent.1) [
      | inl before ↦ kept (closed a b (parent.0, before, parent.2))
      | inr listed ↦ elim (contains_cases entry [] (entry_of a parent.0) listed) [
        | inl same ↦ kept (All-contains (Holds g) entry.node.parents b held (subst (λ (e : Entry A). Contains e.node.parents b) (sym same) parent.2))
        | inr later ↦ nothing_in_nil (entry_of a parent.0) later
      ]
    ]

-- two graphs still agree after entries are inserted with which the first graph agrees
pub agree_inserted : {A : Type 0} (g h entries new : List (Entry A)) (format : Format) → Agree g h → All (AgreesWith g) entries → Inserts format h entries new → Agree g new
agree_inserted {A} g h entries new format agree theirs inserts a m n left right =
    elim (adds_only format h entries new inserts a n right) [
      | inl before ↦ agree a m n left before
      | inr listed ↦ All-contains (AgreesWith g) entries (entry_of a n) theirs listed m left
    ]

-- ---- selected entries

-- an id that a graph does not contain is not the id of a selected entry
chosen_absent : {A : Type 0} (P : Entry A → Type 0) (g list : List (Entry A)) (a : List ℕ) → Selects P g list → node_at g a ≡ None → node_at list a ≡ None
chosen_absent P g list a none absent = refl
chosen_absent P g list a (keep {x = entry} {xs = others} {ys = more} p rest) absent =
    node_there entry more a (absent_head entry others a absent) ∙ chosen_absent P others more a rest (absent_tail entry others a absent)
chosen_absent P g list a (skip {x = entry} {xs = others} left_out rest) absent = chosen_absent P others list a rest (absent_tail entry others a absent)

chosen_differ : {A : Type 0} (P : Entry A → Type 0) (g list : List (Entry A)) → Selects P g list → IdsDiffer g → IdsDiffer list
chosen_differ P g list none differ = tt
chosen_differ P g list (keep {x = entry} {xs = others} {ys = more} p rest) differ =
    (chosen_absent P others more entry.id rest differ.0, chosen_differ P others more rest differ.1)
chosen_differ P g list (skip {xs = others} left_out rest) differ = chosen_differ P others list rest differ.1

-- selected entries of a valid graph form a valid graph
pub chosen_graph : {A : Type 0} (P : Entry A → Type 0) (g : History A) (list : List (Entry A)) → IsGraph g → Selects P g.entries list → IsGraph (record { format = g.format; entries = list })
chosen_graph {A} P g list graph chosen = record {
  differ = chosen_differ P g.entries list chosen graph.differ;
  ids = chosen_all P (HasIdsOf g.format) g.entries list chosen graph.ids;
  shaped = chosen_all P (λ (e : Entry A). IsShaped e.node) g.entries list chosen graph.shaped;
  few = let l = chosen_few P g.entries list chosen in let f = graph.few in omega arith;
}

-- if the ids are distinct, each id has the node of its entry
pub own_node : {A : Type 0} (g : List (Entry A)) (k : ℕ) (entry : Entry A) → IdsDiffer g → slice_get g k ≡ Some entry → IsNode g entry.id entry.node
own_node {A} g k entry differ at =
    node_at_position g entry.id k (own_position g k entry differ at) ∙ ap (option_map (λ (e : Entry A). e.node)) at

pub own_nodes : {A : Type 0} (g : List (Entry A)) → IdsDiffer g → All (λ entry. IsNode g entry.id entry.node) g
own_nodes g differ k d inside = own_node g k (get_or g k d) differ (slice_get-get_or g k d inside)

-- a graph agrees with each of its entries
pub nodes_agree : {A : Type 0} (g entries : List (Entry A)) → All (λ entry. IsNode g entry.id entry.node) entries → All (AgreesWith g) entries
nodes_agree g entries are k d inside = λ node is. let entry = get_or entries k d in one_node g entry.id node entry.node is (are k d inside)

-- the graph maps the id of each selected entry to the entry's node
pub chosen_nodes : {A : Type 0} (P : Entry A → Type 0) (g list : List (Entry A)) → IdsDiffer g → Selects P g list → All (λ entry. IsNode g entry.id entry.node) list
chosen_nodes {A} P g list differ chosen = chosen_all P (λ (entry : Entry A). IsNode g entry.id entry.node) g list chosen (own_nodes g differ)

ids_of_any : {A : Type 0} → IdsHaveOneFormat → (format : Format) (list : List (Entry A)) → All (HasIdsOf format) list → All HasIds list
ids_of_any one format list ids k d inside = let of = ids k d inside in record {
  id = (one format _ of.id).0;
  parents = λ i e within. (one format _ (of.parents i e within)).0;
}

pub graph_entries : {A : Type 0} → IdsHaveOneFormat → (g : History A) → IsGraph g → AreEntries g.entries
graph_entries one g graph = record { differ = graph.differ; ids = ids_of_any one g.format g.entries graph.ids }

-- ---- the graph that receives the list to send

module _ {A : Type 0} (s c list new : List (Entry A)) (wants commons tips : List (List ℕ)) (format : Format)
    (differ : IdsDiffer s) (closed : IsClosed s) (agree : Agree s c) (held : All (Holds s) wants) (connected : All (IsConnected c) commons)
    (sent : IsListToSend s wants commons tips list) (inserts : Inserts format c list new) where
  keeps : Keeps c new
  keeps = grows_keeps c new (inserts_grows format c list new inserts)

  agrees : Agree s new
  agrees = agree_inserted s c list new format agree (nodes_agree s list (chosen_nodes (IsToSend s wants commons tips) s list differ sent)) inserts

  wanted_held : (a : List ℕ) → SomeReaches s wants a → Holds s a
  wanted_held a (want, among, way) = connected_in_closed s closed want (All-contains (Holds s) wants want held among) a way

  -- the new graph contains every id that a common id reaches
  known_held : (a : List ℕ) → SomeReaches s commons a → Holds new a
  known_held a (common, among, way) =
      let whole : IsConnected c common = All-contains (IsConnected c) commons common connected among in
      let there = held_node c a (whole a (path_shared s c common a agree whole way)) in
      holds_node new a there.0 (keeps a there.0 there.1)

  sent_held : (entry : Entry A) → Contains list entry → Holds new entry.id
  sent_held entry among =
      holds_node new entry.id entry.node (All-contains (λ (e : Entry A). IsNode new e.id e.node) list entry (inserts_held format c list new inserts) among)

  not_sent_held : (a : List ℕ) (entry : Entry A) → entry.id ≡ a → SomeReaches s wants a → ¬ (IsToSend s wants commons tips entry) → Holds new a
  not_sent_held a entry is wanted left_out =
      elim (cases_Bool (is_some (node_at new a))) [
        | inl there ↦ there
        | inr missing ↦ absurd (left_out (inl (record {
          wanted = subst (SomeReaches s wants) (sym is) wanted;
          unknown = λ known. false≢true (sym missing ∙ known_held a (subst (SomeReaches s commons) is known));
        })))
      ]

  -- the new graph contains every id that the wants reach in the sender's graph
  pub arrives : (a : List ℕ) → SomeReaches s wants a → Holds new a
  arrives a wanted =
      let at = position_at s a (wanted_held a wanted) in
      elim (chosen_or_not (IsToSend s wants commons tips) s list at.0 at.1 sent at.2) [
        | inl among ↦ subst (Holds new) at.3 (sent_held at.1 among)
        | inr left_out ↦ not_sent_held a at.1 at.3 wanted left_out
      ]

  wanted_there : (want : List ℕ) → Contains wants want → (b : List ℕ) → Reaches new want b → Reaches s want b
  wanted_there want among b way =
      kept_along new (Reaches s want) (λ x y so_far parent. reaches_parent s want x y so_far (parent_shared new s x y (λ a m n left right. sym (agrees a n m right left)) (wanted_held x (want, among, so_far)) parent)) want b way here

  pub sending_is_enough : HasAll s wants new
  sending_is_enough k d inside =
      let want = get_or wants k d in
      let among = Contains-get_or wants k d inside in
      (λ b way. arrives b (want, among, wanted_there want among b way), λ b way. arrives b (want, among, way))

-- this remains true after the sender's graph gains nodes
has_still : {A : Type 0} (s t h : List (Entry A)) (want : List ℕ) → IsClosed s → Keeps s t → Holds s want → IsConnected h want × ((a : List ℕ) → Reaches s want a → Holds h a) → IsConnected h want × ((a : List ℕ) → Reaches t want a → Holds h a)
has_still s t h want closed keeps held has =
    (has.0, λ a way. has.1 a (reached_already s t want a keeps (connected_in_closed s closed want held) way))

pub has_all_still : {A : Type 0} (s t h : List (Entry A)) (wants : List (List ℕ)) → IsClosed s → Keeps s t → All (Holds s) wants → HasAll s wants h → HasAll t wants h
has_all_still s t h wants closed keeps held has k d inside =
    has_still s t h (get_or wants k d) closed keeps (held k d inside) (has k d inside)

-- ---- peeling

pub peels_to_one : {A : Type 0} (g : List (Entry A)) (a b c : List ℕ) → PeelsTo g a b → PeelsTo g a c → b ≡ c
peels_to_one g a b c (steps, leads, commit) other = peel_ends g a b c steps leads commit other

peels_by : {A : Type 0} (g : List (Entry A)) (steps : ℕ) (a c : List ℕ) → Tags g steps a c → IsCommit g c → (a ≡ c) ⊎ ((b : List ℕ) × IsTagOf g a b × PeelsTo g b c)
peels_by g zero a c same commit = inl same
peels_by g (suc steps) a c (next, tag, rest) commit = inr (next, tag, (steps, rest, commit))

-- the object of a tag is a parent of the tag
pub names_parent : {A : Type 0} (g : List (Entry A)) (a b : List ℕ) → IsTagOf g a b → HasParent g a b
names_parent g a b tag =
    (tag.node, tag.held, standing_among tag.node.parents 0 b tag.names)

tags_reach : {A : Type 0} (g : List (Entry A)) (steps : ℕ) (a c : List ℕ) → Tags g steps a c → Reaches g a c
tags_reach g zero a c same = subst (Reaches g a) same here
tags_reach g (suc steps) a c (next, tag, rest) = onward (names_parent g a next tag) (tags_reach g steps next c rest)

pub peels_along_tags : {A : Type 0} (g : List (Entry A)) (a c : List ℕ) → PeelsTo g a c → ((a ≡ c) ⊎ ((b : List ℕ) × IsTagOf g a b × PeelsTo g b c)) × Reaches g a c
peels_along_tags g a c (steps, leads, commit) = (peels_by g steps a c leads commit, tags_reach g steps a c leads)
