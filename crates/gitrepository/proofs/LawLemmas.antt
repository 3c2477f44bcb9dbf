-- A closed store stays closed when the objects of a pack are added. Kept ids are complete.
use Rattle.std.proofs.Common.{◌≡◌, ◌≢◌, ◌⊎◌, inl, inr, arith, ℕ, Bool, true, false, cond, List, [], ◌∷◌, All, Contains, Option, None, Some, IsSome, is_some, get_or, refl, ap, subst, sym, ◌∙◌}
use Rattle.std.specs.Option.{option_or}
use Rattle.std.specs.Str.{bytes_eq}
use Rattle.std.proofs.lemmas.List.Elements.{All-cons, Contains-get_or, All-contains, All-head, All-map, All-nil, All-tail, All-weaker}
use Rattle.std.proofs.lemmas.Slice.Eq.{bytes_eq-Decides}
use Rattle.gname.specs.Ids.{Id}
use Rattle.gobject.specs.declared.node.Entry.{Entry}
use Rattle.gdag.specs.Graphs as graph
use Rattle.gitobject.specs.Trees.{link_of}
use Rattle.gitobject.specs.declared.links.Link.{Link}
use Rattle.gitobject.specs.declared.types.ObjectType.{ObjectType}
use Rattle.gitobject.specs.declared.types.ObjectType.TheVariants.{Commit, Tree, Blob, Tag}
use Rattle.gcomplete.specs.Closed.{IsClosed, IsComplete, LeadsIn}
use Rattle.gcomplete.specs.Linked.{AreLinkedTo, HasClosed, IsLinked, LeadsTo}
use Rattle.gcomplete.specs.Naming.{Collide}
use Rattle.gcomplete.specs.Stores.{AreTypesOf, GitObject, Holds, Store, joined, kind_at, kind_in}
use Rattle.gcomplete.proofs.Closing.{closed_complete}
use Rattle.gcomplete.proofs.Linking.{linked_closed}
use Rattle.gcomplete.proofs.Parts.{held_kind, is_something, object_held, something}
use Rattle.gcomplete.proofs.Tests.{found_in}
use Rattle.gitpack.specs.Indexes.{object_id}
use Rattle.gitpack.specs.declared.indexing.IndexedEntry.{IndexedEntry}
use Rattle.gitrepository.specs.Laws.{CompletesKept, HasTwoTypes, KeptIsComplete, PacksKeepClosed, type_of, types_of}
use Rattle.gitrepository.specs.Received.{AreLinked, IsInReceived, Leads}
use Rattle.gitrepository.proofs.LinkLemmas.{linked_weaker}

-- a number for each type, so that types can be compared
abbrev number : ObjectType → ℕ
number Commit = 0
number Tree = 1
number Blob = 2
number Tag = 3

same_type : (kind other : ObjectType) → (kind ≡ other) ⊎ (kind ≢ other)
same_type Commit Commit = inl refl
same_type Commit Tree = inr (λ is. let n = ap number is in omega (arith, n))
same_type Commit Blob = inr (λ is. let n = ap number is in omega (arith, n))
same_type Commit Tag = inr (λ is. let n = ap number is in omega (arith, n))
same_type Tree Commit = inr (λ is. let n = ap number is in omega (arith, n))
same_type Tree Tree = inl refl
same_type Tree Blob = inr (λ is. let n = ap number is in omega (arith, n))
same_type Tree Tag = inr (λ is. let n = ap number is in omega (arith, n))
same_type Blob Commit = inr (λ is. let n = ap number is in omega (arith, n))
same_type Blob Tree = inr (λ is. let n = ap number is in omega (arith, n))
same_type Blob Blob = inl refl
same_type Blob Tag = inr (λ is. let n = ap number is in omega (arith, n))
same_type Tag Commit = inr (λ is. let n = ap number is in omega (arith, n))
same_type Tag Tree = inr (λ is. let n = ap number is in omega (arith, n))
same_type Tag Blob = inr (λ is. let n = ap number is in omega (arith, n))
same_type Tag Tag = inl refl

-- the id of each object has a type
abbrev IsTyped : List IndexedEntry → IndexedEntry → Type 0
IsTyped objects e = IsSome (kind_at (types_of objects) (object_id e))

are_typed : (es : List IndexedEntry) → All (IsTyped es) es
are_typed [] = All-nil (IsTyped [])
are_typed (x ∷ es) = All-cons (IsTyped (x ∷ es)) x es first (All-weaker (IsTyped es) (IsTyped (x ∷ es)) later es (are_typed es))
  where
    first : IsTyped (x ∷ es) x
    first = ap (λ b. is_some (cond b (Some x.kind) (kind_at (types_of es) (object_id x)))) ((bytes_eq-Decides (object_id x) (object_id x)).1 refl)

    later : (e : IndexedEntry) → IsTyped es e → IsTyped (x ∷ es) e
    later e some = more (bytes_eq (object_id e) (object_id x))
      where
        more : (b : Bool) → IsSome (cond b (Some x.kind) (kind_at (types_of es) (object_id e)))
        more true = refl
        more false = some

module _ (prerequisites : List Link) (objects : List IndexedEntry) (s : Store) (linked : AreLinked prerequisites objects) where
  -- the object that a look-up finds
  found : (a : Id) (kind : ObjectType) → kind_at (types_of objects) a ≡ Some kind → IsLinked (Leads prerequisites objects) a kind
  found a kind is =
      let P : Id × ObjectType → Type 0 = λ pair. IsLinked (Leads prerequisites objects) pair.0 pair.1 in
      found_in P (types_of objects) a kind (All-map P type_of objects linked) is

  -- an object of the pack has this id and this type
  abbrev IsOf : Id × ObjectType → Type 0
  IsOf pair = (e : IndexedEntry) × Contains objects e × (object_id e ≡ pair.0) × (e.kind ≡ pair.1)

  are_of : All (λ e. IsOf (type_of e)) objects
  are_of k d inside = (get_or objects k d, Contains-get_or objects k d inside, refl, refl)

  -- a look-up of the id of the object finds the type of the object
  abbrev IsFound : IndexedEntry → Type 0
  IsFound e = kind_at (types_of objects) (object_id e) ≡ Some e.kind

  found_or : (e : IndexedEntry) → Contains objects e → IsTyped objects e → IsFound e ⊎ HasTwoTypes objects
  found_or e among typed =
      let kind = something (kind_at (types_of objects) (object_id e)) typed in
      let other = found_in IsOf (types_of objects) (object_id e) kind.0 (All-map IsOf type_of objects are_of) kind.1 in
      elim (same_type e.kind kind.0) [
        | inl same ↦ inl (kind.1 ∙ ap (λ k. Some k) (sym same))
        | inr differ ↦ inr (record {
          object = e;
          other = other.0;
          first = among;
          second = other.1;
          same = sym other.2;
          differ = λ same. differ (same ∙ other.3);
        })
      ]

  all_found_or : (es : List IndexedEntry) → All (Contains objects) es → All (IsTyped objects) es → All IsFound es ⊎ HasTwoTypes objects
  all_found_or [] each typed = inl (All-nil IsFound)
  all_found_or (e ∷ es) each typed =
      both (found_or e (All-head (Contains objects) e es each) (All-head (IsTyped objects) e es typed))
      (all_found_or es (All-tail (Contains objects) e es each) (All-tail (IsTyped objects) e es typed))
    where
      both : IsFound e ⊎ HasTwoTypes objects → All IsFound es ⊎ HasTwoTypes objects → All IsFound (e ∷ es) ⊎ HasTwoTypes objects
      both (inr twice) rest = inr twice
      both (inl here) (inr twice) = inr twice
      both (inl here) (inl rest) = inl (All-cons IsFound e es here rest)

  module _ (all : All IsFound objects) (held : All (LeadsIn s) prerequisites) where
    leads_to : (link : Link) → Leads prerequisites objects link → LeadsTo (types_of objects) s link
    leads_to link (inl mine) =
        let P : Id → Type 0 = λ a. kind_at (types_of objects) a ≡ Some mine.object.kind in
        inl (subst P mine.id (All-contains IsFound objects mine.object all mine.among) ∙ ap (λ k. Some k) mine.kind)
    leads_to link (inr outside) = inr (All-contains (LeadsIn s) prerequisites link held outside)

    linked_to : AreLinkedTo (types_of objects) s
    linked_to a kind is = linked_weaker (Leads prerequisites objects) (LeadsTo (types_of objects) s) leads_to a kind (found a kind is)

pub packs_keep : PacksKeepClosed
packs_keep prerequisites objects s named closed linked held =
    let each : All (Contains objects) objects = λ k d inside. Contains-get_or objects k d inside in
    elim (all_found_or prerequisites objects s linked objects each (are_typed objects)) [
      | inl all ↦ inl (linked_closed (types_of objects) s named closed (linked_to prerequisites objects s linked all held))
      | inr twice ↦ inr twice
    ]

-- two stores together have the objects of the first store and those of the second store
holds_first : (s t : Store) (a : Id) → Holds s a → Holds (joined s t) a
holds_first s t a held =
    let o = something (s a) held in rw o.1 refl

holds_second : (s t : Store) (a : Id) → Holds t a → Holds (joined s t) a
holds_second s t a held = more (s a)
  where
    more : (o : Option GitObject) → IsSome (option_or o (t a))
    more None = held
    more (Some o) = refl

-- an id with a type in the store belongs to an object of the store
has_kind : (s : Store) (a : Id) → IsSome (kind_in s a) → Holds s a
has_kind s a some =
    let kind = something (kind_in s a) some in
    let o = held_kind s a kind.0 kind.1 in
    object_held s a o.0 o.1

module _ {A : Type 0} (old new : List (Entry A)) (prerequisites : List Link) (objects : List IndexedEntry) (s : Store)
    (has : (a : Id) → graph.Holds old a → Holds s a) (held : All (LeadsIn s) prerequisites)
    (gained : (a : Id) → graph.Holds new a → graph.Holds old a ⊎ IsInReceived prerequisites objects a) where
  -- the store and the objects of the pack together have each id of the new graph
  abbrev IsKeptId : Id → Type 0
  IsKeptId a = graph.Holds new a

  module _ (added : Store) (types : AreTypesOf (types_of objects) added) where
    led : (a : Id) → IsInReceived prerequisites objects a → Holds (joined s added) a
    led a (kind, inl mine) =
        let typed = All-contains (IsTyped objects) objects mine.object (are_typed objects) mine.among in
        holds_second s added a (has_kind added a (subst (λ k. IsSome k) (types a) (subst (λ b. IsSome (kind_at (types_of objects) b)) mine.id typed)))
    led a (kind, inr outside) =
        holds_first s added a (has_kind s a (is_something (kind_in s a) kind (All-contains (LeadsIn s) prerequisites (link_of kind a) held outside)))

    kept_held : (a : Id) → IsKeptId a → Holds (joined s added) a
    kept_held a kept =
        elim (gained a kept) [
          | inl was ↦ holds_first s added a (has a was)
          | inr received ↦ led a received
        ]

    kept_complete_in : IsClosed (joined s added) → (a : Id) → IsKeptId a → IsComplete (joined s added) a
    kept_complete_in closed a kept = closed_complete (joined s added) closed a (kept_held a kept)

  completes : HasClosed (types_of objects) s → CompletesKept IsKeptId objects s
  completes it = record {
    added = it.added;
    types = it.types_of;
    named = it.named;
    complete = either it.closed;
  }
    where
      either : IsClosed (joined s it.added) ⊎ Collide s it.added → ((a : Id) → IsKeptId a → IsComplete (joined s it.added) a) ⊎ Collide s it.added
      either (inl closed) = inl (kept_complete_in it.added it.types_of closed)
      either (inr collide) = inr collide

pub kept_complete : {A : Type 0} → KeptIsComplete A
kept_complete old new prerequisites objects s named closed has linked held gained =
    elim (packs_keep prerequisites objects s named closed linked held) [
      | inl stays ↦ inl (completes old new prerequisites objects s has held gained stays)
      | inr twice ↦ inr twice
    ]
