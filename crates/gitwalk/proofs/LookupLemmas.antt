-- The walk that looks up the objects that a received pack relies on.
use Rattle.std.proofs.Common.{◌≡◌, ◌⊎◌, inl, inr, Bool, ℕ, List, [], ◌∷◌, ◌++◌, All, Contains, None, Some, map, sym, ap, subst, ◌∙◌}
use Rattle.std.proofs.lemmas.List.Elements.{All-weaker, Contains-push_cases}
use Rattle.std.proofs.lemmas.Option.{none-some, same_Some}
use Rattle.gname.specs.Ids.{Id}
use Rattle.gdag.proofs.IdLists.{contains_cases, contains_head, nothing_in_nil}
use Rattle.gitobject.specs.Trees.{link_of}
use Rattle.gitobject.specs.declared.links.Link.{Link}
use Rattle.gitobject.specs.declared.types.ObjectType.{ObjectType}
use Rattle.gitobject.specs.declared.types.ObjectType.TheVariants.{Tree}
use Rattle.gitobjects.specs.declared.store.Found.{Found}
use Rattle.gitpack.specs.declared.indexing.IndexedEntry.{IndexedEntry}
use Rattle.gcomplete.specs.Stores.{GitObject, object_of}
use Rattle.gitwalk.specs.Gathering.{Fates, decided_at}
use Rattle.gitwalk.specs.Received.{IsInPack}
use Rattle.gitwalk.specs.StoredTrees.{AreTreesRead, IsLookedUp, IsTreeRead, LeadsToKnown}
use Rattle.gitwalk.specs.declared.fates.Decided.{Decided}
use Rattle.gitwalk.specs.declared.walk.PendingTree.{PendingTree}
use Rattle.gitwalk.specs.declared.walk.Walk.{Walk}
use Rattle.gitwalk.specs.steps.Walking.{IsLookingUp, IsNew, IsPending, LeadsOn, LeadsToCovered, LooksUp, Notes, NotesObject, StaysDecided, id_of_tree}
use Rattle.gitwalk.proofs.WalkLemmas.{ids_pushed, keeps_same}

pub leads_more : {A : Type 0} (old new : Walk A) → new.received ≡ old.received → StaysDecided old.fates new.fates → (link : Link) → LeadsOn old link → LeadsOn new link
leads_more old new same keeps link (inl received) = inl (subst (λ objects. IsInPack objects link) (sym (ap (λ r. r.now) same)) received)
leads_more old new same keeps link (inr up) = inr (up.0, keeps link.id up.0 up.1, up.2)

tree_more : {A : Type 0} (has : Id → GitObject → Type 0) (old new : Walk A) → new.received ≡ old.received → StaysDecided old.fates new.fates → (a : Id)
    → IsTreeRead has old.received.now old.fates a → IsTreeRead has new.received.now new.fates a
tree_more has old new same keeps a is = record {
  body = is.body;
  read = is.read;
  links = is.links;
  reads = is.reads;
  each = All-weaker (LeadsOn old) (LeadsOn new) (leads_more old new same keeps) is.links is.each;
}

known_on : (old new : Fates) → StaysDecided old new → (objects : List IndexedEntry) (link : Link) → LeadsToKnown old objects link → LeadsToKnown new objects link
known_on old new keeps objects link (inl received) = inl received
known_on old new keeps objects link (inr up) = inr (up.0, keeps link.id up.0 up.1, up.2)

pub known_more : (old new : Fates) → StaysDecided old new → (objects : List IndexedEntry) (links : List Link) → All (LeadsToKnown old objects) links
    → All (LeadsToKnown new objects) links
known_more old new keeps objects links all = All-weaker (LeadsToKnown old objects) (LeadsToKnown new objects) (known_on old new keeps objects) links all

module _ {A : Type 0} (has : Id → GitObject → Type 0) (located : Id → Found → Type 0) where
  -- at first nothing is looked up
  pub looks_first : (walk : Walk A) → walk.fates ≡ [] → LooksUp has located walk
  looks_first walk none = record {
    linked = λ a d is. nothing d (back a d is);
    found = λ a d is. nothing d (back a d is);
    trees = λ a up. nothing up.0 (back a up.0 up.1);
  }
    where
      back : StaysDecided walk.fates []
      back = keeps_same walk.fates [] (sym none)

      nothing : {P : Type 0} (d : Decided) → None ≡ Some d → P
      nothing d is = absurd (none-some d is)

  -- what is covered was looked up
  pub looked_up : (waiting : List Id) (walk : Walk A) → IsLookingUp has located waiting walk → (link : Link) → LeadsToCovered walk link → LeadsOn walk link
  looked_up waiting walk way link (inl received) = inl received
  looked_up waiting walk way link (inr decided) = inr (decided.0, decided.1, by decided.2)
    where
      by : (decided.0.kind ≡ None) ⊎ (decided.0.kind ≡ Some link.kind) → decided.0.kind ≡ Some link.kind
      by (inl none) = let linked = way.linked link.id decided.0 decided.1 in absurd (none-some linked.0 (sym none ∙ linked.1))
      by (inr same) = same

  -- links are noted
  pub looks_on : {sent : Bool} (waiting : List Id) (old new : Walk A) (links : List Link) → Notes located old links sent new
      → IsLookingUp has located waiting old → IsLookingUp has located waiting new
  looks_on waiting old new links notes way = record { linked = linked; found = found; trees = trees }
    where
      linked : (a : Id) (d : Decided) → decided_at new.fates a ≡ Some d → (kind : ObjectType) × (d.kind ≡ Some kind)
      linked a d is =
          elim (notes.only a d is) [
            | inl before ↦ way.linked a d before
            | inr this ↦ (this.1.kind, this.1.linked)
          ]

      found : (a : Id) (d : Decided) → decided_at new.fates a ≡ Some d → located a d.found
      found a d is =
          elim (notes.only a d is) [
            | inl before ↦ way.found a d before
            | inr this ↦ this.1.found
          ]

      onward : (a : Id) → Contains waiting a ⊎ (IsPending old a ⊎ IsTreeRead has old.received.now old.fates a)
          → Contains waiting a ⊎ (IsPending new a ⊎ IsTreeRead has new.received.now new.fates a)
      onward a (inl waits) = inl waits
      onward a (inr (inl there)) = inr (inl (notes.pending a there))
      onward a (inr (inr read)) = inr (inr (tree_more has old new notes.received notes.keeps a read))

      fresh : (a : Id) (d : Decided) → d.kind ≡ Some Tree → IsNew located new links a d
          → Contains waiting a ⊎ (IsPending new a ⊎ IsTreeRead has new.received.now new.fates a)
      fresh a d tree is =
          elim is.waits [
            | inl other ↦ absurd (other (same_Some is.kind Tree (sym is.linked ∙ tree)))
            | inr there ↦ inr (inl there)
          ]

      trees : (a : Id) → IsLookedUp new.fates (link_of Tree a) → Contains waiting a ⊎ (IsPending new a ⊎ IsTreeRead has new.received.now new.fates a)
      trees a up =
          elim (notes.only a up.0 up.1) [
            | inl before ↦ onward a (way.trees a (up.0, before, up.2))
            | inr this ↦ fresh a up.0 up.2 this.1
          ]

  -- a pending tree is taken
  look_taken : (old new : Walk A) (t : PendingTree) → new.received ≡ old.received → new.fates ≡ old.fates
      → old.trees.items ≡ new.trees.items ++ t ∷ [] → LooksUp has located old → IsLookingUp has located (t.id ∷ []) new
  look_taken old new t received fates trees way = record {
    linked = λ a d is. way.linked a d (back a d is);
    found = λ a d is. way.found a d (back a d is);
    trees = λ a up. by a (way.trees a (up.0, back a up.0 up.1, up.2));
  }
    where
      back : StaysDecided new.fates old.fates
      back = keeps_same new.fates old.fates (sym fates)

      by : (a : Id) → Contains [] a ⊎ (IsPending old a ⊎ IsTreeRead has old.received.now old.fates a)
          → Contains (t.id ∷ []) a ⊎ (IsPending new a ⊎ IsTreeRead has new.received.now new.fates a)
      by a (inl waits) = nothing_in_nil a waits
      by a (inr (inl there)) =
          elim (Contains-push_cases (map id_of_tree new.trees.items) t.id a
          (subst (λ is. Contains is a) (ap (map id_of_tree) trees ∙ ids_pushed new.trees.items t) there)) [
            | inl rest ↦ inr (inl rest)
            | inr this ↦ inl (subst (Contains (t.id ∷ [])) this (contains_head t.id []))
          ]
      by a (inr (inr read)) = inr (inr (tree_more has old new received (keeps_same old.fates new.fates fates) a read))

  -- a tree that was taken was read
  look_read : (walk : Walk A) (a : Id) → IsTreeRead has walk.received.now walk.fates a → IsLookingUp has located (a ∷ []) walk → LooksUp has located walk
  look_read walk a read way = record { linked = way.linked; found = way.found; trees = λ b up. by b (way.trees b up) }
    where
      by : (b : Id) → Contains (a ∷ []) b ⊎ (IsPending walk b ⊎ IsTreeRead has walk.received.now walk.fates b)
          → Contains [] b ⊎ (IsPending walk b ⊎ IsTreeRead has walk.received.now walk.fates b)
      by b (inr other) = inr other
      by b (inl waits) =
          elim (contains_cases a [] b waits) [
            | inl same ↦ inr (inr (subst (IsTreeRead has walk.received.now walk.fates) same read))
            | inr later ↦ nothing_in_nil b later
          ]

  -- a pending tree is taken and read
  pub look_step : {sent : Bool} (old mid new : Walk A) (t : PendingTree) (body : List ℕ) → mid.received ≡ old.received → mid.fates ≡ old.fates
      → old.trees.items ≡ mid.trees.items ++ t ∷ [] → has t.id (object_of Tree body) → NotesObject located mid Tree body sent new
      → LooksUp has located old → LooksUp has located new
  look_step old mid new t body received fates trees read notes way =
      let waiting = t.id ∷ [] in
      let on = looks_on waiting mid new notes.links notes.notes (look_taken old mid t received fates trees way) in
      look_read new t.id
      (record {
        body = body;
        read = read;
        links = notes.links;
        reads = notes.follows;
        each = All-weaker (LeadsToCovered new) (LeadsOn new) (looked_up waiting new on) notes.links notes.notes.each;
      }) on

  -- nothing changes
  pub look_stays : (old new : Walk A) → new.received ≡ old.received → new.trees.items ≡ old.trees.items → new.fates ≡ old.fates
      → LooksUp has located old → LooksUp has located new
  look_stays old new received trees fates way = record {
    linked = λ a d is. way.linked a d (back a d is);
    found = λ a d is. way.found a d (back a d is);
    trees = λ a up. by a (way.trees a (up.0, back a up.0 up.1, up.2));
  }
    where
      back : StaysDecided new.fates old.fates
      back = keeps_same new.fates old.fates (sym fates)

      by : (a : Id) → Contains [] a ⊎ (IsPending old a ⊎ IsTreeRead has old.received.now old.fates a)
          → Contains [] a ⊎ (IsPending new a ⊎ IsTreeRead has new.received.now new.fates a)
      by a (inl waits) = inl waits
      by a (inr (inl there)) = inr (inl (subst (λ ts. Contains (map id_of_tree ts) a) (sym trees) there))
      by a (inr (inr read)) = inr (inr (tree_more has old new received (keeps_same old.fates new.fates fates) a read))

  -- the walk is over
  pub trees_read : (walk : Walk A) (objects : List IndexedEntry) (prerequisites : List Link) → walk.received.now ≡ objects → walk.trees.items ≡ []
      → LooksUp has located walk → All (LeadsToKnown walk.fates objects) prerequisites → AreTreesRead has located objects prerequisites
  trees_read walk objects prerequisites same empty way each = record {
    fates = walk.fates;
    each = each;
    trees = λ a up. by a (way.trees a up);
    found = way.found;
  }
    where
      by : (a : Id) → Contains [] a ⊎ (IsPending walk a ⊎ IsTreeRead has walk.received.now walk.fates a) → IsTreeRead has objects walk.fates a
      by a (inl waits) = nothing_in_nil a waits
      by a (inr (inl there)) = nothing_in_nil a (subst (λ ts. Contains (map id_of_tree ts) a) empty there)
      by a (inr (inr read)) = subst (λ (os : List IndexedEntry). IsTreeRead has os walk.fates a) same read
