-- The ids of a graph are complete, with the trees of the store that were read.
use Rattle.std.proofs.Common.{◌≡◌, ◌⊎◌, inl, inr, Bool, true, false, List, [], ◌∷◌, ◌++◌, All, Contains, Option, None, Some, refl, sym, ap, subst, ◌∙◌}
use Rattle.std.specs.List.{cons_option, filter_map}
use Rattle.std.proofs.lemmas.Bool.{false≢true}
use Rattle.std.proofs.lemmas.List.Elements.{All-append, All-cons, All-contains, All-nil, All-weaker, Contains-append_left, Contains-append_right}
use Rattle.std.proofs.lemmas.Map.Views.{Contains-from_lookup}
use Rattle.std.proofs.lemmas.Option.{none-some, same_Some}
use Rattle.std.proofs.lemmas.Slice.Eq.{bytes_eq-Decides}
use Rattle.gname.specs.Ids.{Id}
use Rattle.gdag.specs.Graphs as graph
use Rattle.gdag.proofs.IdLists.{contains_cases, contains_head, contains_tail, nothing_in_nil}
use Rattle.gitobject.specs.Trees.{link_of}
use Rattle.gitobject.specs.declared.links.Link.{Link}
use Rattle.gitobject.specs.declared.types.ObjectType.{ObjectType}
use Rattle.gitobject.specs.declared.types.ObjectType.TheVariants.{Commit, Tree, Blob, Tag}
use Rattle.gcomplete.specs.Closed.{LeadsIn}
use Rattle.gcomplete.specs.Linked.{IsLinked}
use Rattle.gcomplete.specs.Naming.{IsNameOf}
use Rattle.gcomplete.specs.Stores.{Store}
use Rattle.gitpack.specs.declared.indexing.IndexedEntry.{IndexedEntry}
use Rattle.gitwalk.specs.Gathering.{Fates, decided_at}
use Rattle.gitrepository.specs.Laws.{HasAllButTrees, ReadIsComplete, tree_at, trees_of}
use Rattle.gitrepository.specs.Received.{AreLinked, IsInReceived, IsLinkedEntry, Leads}
use Rattle.gitwalk.specs.StoredTrees.{AreTreesRead, IsLocated, IsLookedUp, IsTreeRead, LeadsToKnown, linked_kind}
use Rattle.gitwalk.specs.declared.fates.Decided.{Decided}
use Rattle.gitrepository.proofs.LawLemmas.{kept_complete}
use Rattle.gitrepository.proofs.LinkLemmas.{linked_weaker}

-- ---- lists without some of their items

filtered : {X Y : Type 0} (h : X → Option Y) (xs : List X) (x : X) (y : Y) → Contains xs x → h x ≡ Some y → Contains (filter_map h xs) y
filtered h [] x y among is = nothing_in_nil x among
filtered h (z ∷ xs) x y among is =
    elim (contains_cases z xs x among) [
      | inl same ↦ subst (λ o. Contains (cons_option o (filter_map h xs)) y) (sym (ap h same ∙ is)) (contains_head y (filter_map h xs))
      | inr later ↦ more (h z) (filtered h xs x y later is)
    ]
  where
    more : (o : Option _) → Contains (filter_map h xs) y → Contains (cons_option o (filter_map h xs)) y
    more None there = there
    more (Some first) there = contains_tail first (filter_map h xs) y there

all_more : {Y : Type 0} (P : Y → Type 0) (o : Option Y) (ys : List Y) → ((y : Y) → o ≡ Some y → P y) → All P ys → All P (cons_option o ys)
all_more P None ys each all = all
all_more P (Some y) ys each all = All-cons P y ys (each y refl) all

all_filtered : {X Y : Type 0} (h : X → Option Y) (P : Y → Type 0) (xs : List X) → ((x : X) (y : Y) → Contains xs x → h x ≡ Some y → P y)
    → All P (filter_map h xs)
all_filtered h P [] each = All-nil P
all_filtered h P (x ∷ xs) each =
    all_more P (h x) (filter_map h xs) (λ y is. each x y (contains_head x xs) is)
    (all_filtered h P xs (λ z y among is. each z y (contains_tail x xs z among) is))

-- ---- what was looked up and is not a tree

abbrev is_tree : ObjectType → Bool
is_tree Tree = true
is_tree Commit = false
is_tree Blob = false
is_tree Tag = false

abbrev other_at : Id → Option ObjectType → Option Link
other_at a (Some Tree) = None
other_at a (Some Commit) = Some (link_of Commit a)
other_at a (Some Blob) = Some (link_of Blob a)
other_at a (Some Tag) = Some (link_of Tag a)
other_at a None = None

abbrev tree_entry : Id → IndexedEntry
tree_entry a = record { entry = record { id = a; crc = 0; offset = 0 }; kind = Tree }

looked_up : (fates : Fates) (a : Id) (kind : ObjectType) → linked_kind (decided_at fates a) ≡ Some kind → IsLookedUp fates (link_of kind a)
looked_up fates a kind is = by (decided_at fates a) refl
  where
    by : (d : Option Decided) → decided_at fates a ≡ d → IsLookedUp fates (link_of kind a)
    by None none = absurd (none-some kind (sym (ap linked_kind none) ∙ is))
    by (Some d) some = (d, some, sym (ap linked_kind some) ∙ is)

module _ (prerequisites : List Link) (objects : List IndexedEntry) (s : Store) (linked : AreLinked prerequisites objects)
    (read : AreTreesRead IsNameOf IsLocated objects prerequisites) (has : HasAllButTrees s read.fates) where
  abbrev fates : Fates
  fates = read.fates

  abbrev all : List IndexedEntry
  all = objects ++ trees_of fates

  abbrev others : List Link
  others = filter_map (λ pair. other_at pair.0 (linked_kind (decided_at fates pair.0))) fates

  -- the id and the decision about it are in the list of fates
  in_fates : (link : Link) → (up : IsLookedUp fates link) → Contains fates (link.id, up.0)
  in_fates link up = Contains-from_lookup (λ x y is. (bytes_eq-Decides x y).0 is) link.id up.0 fates up.1

  known_kind : (link : Link) (kind : ObjectType) → link.kind ≡ kind → IsLookedUp fates link → linked_kind (decided_at fates link.id) ≡ Some kind
  known_kind link kind is up = ap linked_kind up.1 ∙ up.2 ∙ ap (λ k. Some k) is

  lead_other : (link other : Link) (kind : ObjectType) → link.kind ≡ kind → other_at link.id (Some kind) ≡ Some other → link_of kind link.id ≡ other
      → IsLookedUp fates link → Leads others all link
  lead_other link other kind is at same up =
      inr (filtered (λ pair. other_at pair.0 (linked_kind (decided_at fates pair.0))) fates (link.id, up.0) link (in_fates link up)
      (ap (other_at link.id) (known_kind link kind is up) ∙ at ∙ ap (λ l. Some l) (sym same ∙ ap (λ k. link_of k link.id) (sym is))))

  lead_up : (link : Link) (kind : ObjectType) → link.kind ≡ kind → IsLookedUp fates link → Leads others all link
  lead_up link Tree is up =
      inl (record {
        object = tree_entry link.id;
        among = Contains-append_right objects (trees_of fates) (tree_entry link.id)
            (filtered (λ pair. tree_at pair.0 (linked_kind (decided_at fates pair.0))) fates (link.id, up.0) (tree_entry link.id) (in_fates link up)
            (ap (tree_at link.id) (known_kind link Tree is up)));
        id = refl;
        kind = sym is;
      })
  lead_up link Commit is up = lead_other link (link_of Commit link.id) Commit is refl refl up
  lead_up link Blob is up = lead_other link (link_of Blob link.id) Blob is refl refl up
  lead_up link Tag is up = lead_other link (link_of Tag link.id) Tag is refl refl up

  lead_known : (link : Link) → LeadsToKnown fates objects link → Leads others all link
  lead_known link (inl mine) =
      inl (record { object = mine.object; among = Contains-append_left objects (trees_of fates) mine.object mine.among; id = mine.id; kind = mine.kind })
  lead_known link (inr up) = lead_up link link.kind refl up

  lead : (link : Link) → Leads prerequisites objects link → Leads others all link
  lead link (inl mine) = lead_known link (inl mine)
  lead link (inr outside) = lead_known link (All-contains (LeadsToKnown fates objects) prerequisites link read.each outside)

  -- each tree that was read is linked
  tree_linked : (a : Id) → IsTreeRead IsNameOf objects fates a → IsLinked (Leads others all) a Tree
  tree_linked a is = record {
    body = is.body;
    name = is.read;
    links = is.links;
    reads = is.reads;
    each = All-weaker (LeadsToKnown fates objects) (Leads others all) lead_known is.links is.each;
  }

  entry_linked : (a : Id) (kind : Option ObjectType) (e : IndexedEntry) → linked_kind (decided_at fates a) ≡ kind → tree_at a kind ≡ Some e → IsLinkedEntry others all e
  entry_linked a (Some Tree) e at is =
      subst (IsLinkedEntry others all) (same_Some (tree_entry a) e is) (tree_linked a (read.trees a (looked_up fates a Tree at)))
  entry_linked a (Some Commit) e at is = absurd (none-some e is)
  entry_linked a (Some Blob) e at is = absurd (none-some e is)
  entry_linked a (Some Tag) e at is = absurd (none-some e is)
  entry_linked a None e at is = absurd (none-some e is)

  all_linked : AreLinked others all
  all_linked =
      All-append (IsLinkedEntry others all) objects (trees_of fates)
      (All-weaker (IsLinkedEntry prerequisites objects) (IsLinkedEntry others all)
      (λ e is. linked_weaker (Leads prerequisites objects) (Leads others all) lead e.entry.id e.kind is) objects linked)
      (all_filtered (λ pair. tree_at pair.0 (linked_kind (decided_at fates pair.0))) (IsLinkedEntry others all) fates
      (λ pair e among is. entry_linked pair.0 (linked_kind (decided_at fates pair.0)) e refl is))

  -- the store has what is not a tree
  other_held : (a : Id) (kind : Option ObjectType) (found : Link) → linked_kind (decided_at fates a) ≡ kind → other_at a kind ≡ Some found → LeadsIn s found
  other_held a (Some Tree) found at some = absurd (none-some found some)
  other_held a (Some Commit) found at some =
      subst (LeadsIn s) (same_Some (link_of Commit a) found some) (has (link_of Commit a) (looked_up fates a Commit at) (λ tree. false≢true (ap is_tree tree)))
  other_held a (Some Blob) found at some =
      subst (LeadsIn s) (same_Some (link_of Blob a) found some) (has (link_of Blob a) (looked_up fates a Blob at) (λ tree. false≢true (ap is_tree tree)))
  other_held a (Some Tag) found at some =
      subst (LeadsIn s) (same_Some (link_of Tag a) found some) (has (link_of Tag a) (looked_up fates a Tag at) (λ tree. false≢true (ap is_tree tree)))
  other_held a None found at some = absurd (none-some found some)

  all_held : All (LeadsIn s) others
  all_held =
      all_filtered (λ pair. other_at pair.0 (linked_kind (decided_at fates pair.0))) (LeadsIn s) fates
      (λ pair found among some. other_held pair.0 (linked_kind (decided_at fates pair.0)) found refl some)

  still_received : (a : Id) → IsInReceived prerequisites objects a → IsInReceived others all a
  still_received a is = (is.0, lead (link_of is.0 a) is.1)

pub read_complete : {A : Type 0} → ReadIsComplete A
read_complete old new prerequisites objects s named closed has linked read held gained =
    kept_complete old new (others prerequisites objects s linked read held) (all prerequisites objects s linked read held) s named closed has
    (all_linked prerequisites objects s linked read held) (all_held prerequisites objects s linked read held) gains
  where
    gains : (a : Id) → graph.Holds new a → graph.Holds old a ⊎ IsInReceived (others prerequisites objects s linked read held) (all prerequisites objects s linked read held) a
    gains a is =
        elim (gained a is) [
          | inl was ↦ inl was
          | inr received ↦ inr (still_received prerequisites objects s linked read held a received)
        ]
