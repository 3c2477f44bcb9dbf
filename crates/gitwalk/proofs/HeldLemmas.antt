-- The objects that are read by their ids are those of a closed store, or the store has a collision.
use Rattle.std.proofs.Common.{◌≡◌, ◌≢◌, ◌⊎◌, inl, inr, true≢false, cond, List, [], ◌∷◌, All, Contains, Option, None, Some, map, refl, sym, ap, subst, ◌∙◌}
use Rattle.std.specs.Map.{lookup}
use Rattle.std.specs.Option.{option_map}
use Rattle.std.specs.Str.{bytes_eq}
use Rattle.std.proofs.lemmas.Bool.{cases_Bool, false≢true}
use Rattle.std.proofs.lemmas.List.Elements.{All-cons, All-contains, All-nil, All-weaker}
use Rattle.std.proofs.lemmas.Option.{none-some, same_Some}
use Rattle.std.proofs.lemmas.Slice.Eq.{bytes_eq-Decides}
use Rattle.gname.specs.Ids.{Id}
use Rattle.gdag.proofs.IdLists.{contains_head, contains_tail, nothing_in_nil, only_one}
use Rattle.gobject.specs.declared.node.Entry.{Entry}
use Rattle.gitobject.specs.Links.{LinksOf}
use Rattle.gitobject.specs.Trees.{link_of}
use Rattle.gitobject.specs.declared.links.Link.{Link}
use Rattle.gitobject.specs.declared.types.ObjectType.{ObjectType}
use Rattle.gitobject.specs.declared.types.ObjectType.TheVariants.{Commit, Tree, Blob, Tag}
use Rattle.gcomplete.specs.Closed.{IsClosed}
use Rattle.gcomplete.specs.Naming.{IsNameOf, IsNamed}
use Rattle.gcomplete.specs.Stores.{GitObject, Holds, Store}
use Rattle.gcomplete.proofs.Names.{same_or}
use Rattle.gcomplete.proofs.Parts.{held_object, object_held}
use Rattle.gitwalk.specs.Entries.{IsNodeOf, ids_of}
use Rattle.gitwalk.specs.Gathering.{Fates, IsBelowLeftOut, IsBelowListed, IsFollowed, IsGathered, IsLeftOut, IsListed, IsNamedBlob, IsParent, IsSentAt, IsWalked, LeadsDown, fate_at, fate_of, here, is_sent, is_sent_at, onward}
use Rattle.gitwalk.specs.Laws.{Describes, GatheredIsHeld, HasCollision, IsHeld}
use Rattle.gitwalk.specs.declared.fates.Decided.{Decided}
use Rattle.gitwalk.specs.declared.fates.Fate.{Fate}
use Rattle.gitwalk.specs.declared.fates.Fate.TheVariants.{Sent, NotSent}
use Rattle.gitwalk.proofs.SentLemmas.{entry_with, followed_link, link_held}
use Rattle.gitwalk.proofs.WalkLemmas.{sent_fate}

-- an element is in the image of its list
map_all : {X Y : Type 0} (f : X → Y) (xs : List X) → All (λ x. Contains (map f xs) (f x)) xs
map_all f [] = All-nil (λ x. Contains (map f []) (f x))
map_all f (x ∷ xs) =
    All-cons (λ y. Contains (map f (x ∷ xs)) (f y)) x xs (contains_head (f x) (map f xs))
    (All-weaker (λ y. Contains (map f xs) (f y)) (λ y. Contains (map f (x ∷ xs)) (f y)) (λ y among. contains_tail (f x) (map f xs) (f y) among) xs (map_all f xs))

contains_map : {X Y : Type 0} (f : X → Y) (xs : List X) (x : X) → Contains xs x → Contains (map f xs) (f x)
contains_map f xs x among = All-contains (λ y. Contains (map f xs) (f y)) xs x (map_all f xs) among

-- something is true of each element, or there is an exception
each_or : {X : Type 0} (P : X → Type 0) (C : Type 0) (xs : List X) → ((x : X) → Contains xs x → P x ⊎ C) → All P xs ⊎ C
each_or P C [] each = inl (All-nil P)
each_or P C (x ∷ xs) each =
    elim (each x (contains_head x xs)) [
      | inl first ↦
          elim (each_or P C xs (λ y among. each y (contains_tail x xs y among))) [
            | inl rest ↦ inl (All-cons P x xs first rest)
            | inr found ↦ inr found
          ]
      | inr found ↦ inr found
    ]

-- something is true of each decided id
abbrev IsOfDecided : (Id → Type 0) → Fates → Type 0
IsOfDecided P fates = (a : Id) (fate : Fate) → fate_at fates a ≡ Some fate → P a

one_more : (P : Id → Type 0) (pair : Id × Decided) (fates : Fates) → P pair.0 → IsOfDecided P fates → IsOfDecided P (pair ∷ fates)
one_more P pair fates first rest a fate is =
    elim (cases_Bool (bytes_eq a pair.0)) [
      | inl same ↦ subst P (sym ((bytes_eq-Decides a pair.0).0 same)) first
      | inr other ↦ rest a fate (sym (ap (λ t. option_map fate_of (cond t (Some pair.1) (lookup (bytes_eq a) fates))) other) ∙ is)
    ]

-- something is true of each decided id, or there is an exception
for_decided : (P : Id → Type 0) (C : Type 0) → ((a : Id) → P a ⊎ C) → (fates : Fates) → IsOfDecided P fates ⊎ C
for_decided P C each [] = inl (λ a fate is. absurd (none-some fate is))
for_decided P C each (pair ∷ fates) = by (each pair.0) (for_decided P C each fates)
  where
    by : P pair.0 ⊎ C → IsOfDecided P fates ⊎ C → IsOfDecided P (pair ∷ fates) ⊎ C
    by (inr found) rest = inr found
    by (inl first) (inr found) = inr found
    by (inl first) (inl rest) = inl (one_more P pair fates first rest)

module _ {A : Type 0} (server : Store) (entries : List (Entry A)) (fates : Fates) (named : IsNamed server) (closed : IsClosed server)
    (describes : All (Describes server) entries) (gathered : IsGathered IsNameOf entries fates) where
  -- an object that was read is that of the store
  same : (a : Id) (o : GitObject) → IsNameOf a o → Holds server a → (server a ≡ Some o) ⊎ HasCollision server
  same a o name held =
      let mine = held_object server a held in
      elim (same_or a mine.0 o (named a mine.0 mine.1) name) [
        | inl equal ↦ inl (mine.1 ∙ ap (λ (p : GitObject). Some p) equal)
        | inr collision ↦ inr (record { id = a; object = mine.0; other = o; held = mine.1; name = name; collision = collision })
      ]

  follow : (a : Id) (link : Link) → Holds server a → IsFollowed IsNameOf a link → IsFollowed (IsHeld server) a link ⊎ HasCollision server
  follow a link held is =
      elim (same a is.object is.read held) [
        | inl mine ↦ inl (record { object = is.object; read = mine; links = is.links; follows = is.follows; among = is.among })
        | inr found ↦ inr found
      ]

  -- everything below an object of the store is in the store
  down : (a b : Id) → Holds server a → LeadsDown IsNameOf a b → (LeadsDown (IsHeld server) a b × Holds server b) ⊎ HasCollision server
  down a b held here = inl (here, held)
  down a b held (onward {b = c} link before is) = first (down a c held before)
    where
      then_on : LeadsDown (IsHeld server) a c → IsFollowed (IsHeld server) c link ⊎ HasCollision server
          → (LeadsDown (IsHeld server) a link.id × Holds server link.id) ⊎ HasCollision server
      then_on leads (inl mine) = inl (onward link leads mine, link_held server closed c link (followed_link server c link mine))
      then_on leads (inr found) = inr found

      first : (LeadsDown (IsHeld server) a c × Holds server c) ⊎ HasCollision server → (LeadsDown (IsHeld server) a link.id × Holds server link.id) ⊎ HasCollision server
      first (inl both) = then_on both.0 (follow c link both.1 is)
      first (inr found) = inr found

  listed_held : (a : Id) → IsListed entries a → Holds server a
  listed_held a is =
      let found = entry_with entries a is in
      let d = All-contains (Describes server) entries found.entry describes found.listed in
      object_held server a d.object (sym (ap server found.same) ∙ d.held)

  -- the parents of a described entry are in the store
  parents_held : (id : Id) (o : GitObject) (entry : Entry A) → server id ≡ Some o → (kind : ObjectType) → o.kind ≡ kind → IsNodeOf kind o.body entry.node
      → (a : Id) → Contains entry.node.parents a → Holds server a
  parents_held id o entry held Commit is node a among =
      let all = link_of Tree node.0 ∷ map (link_of Commit) node.1 in
      let L : ObjectType → Type 0 = λ k. LinksOf k o.body all in
      let in_all : Contains all (link_of Commit a) =
      contains_tail (link_of Tree node.0) (map (link_of Commit) node.1) (link_of Commit a)
      (contains_map (link_of Commit) node.1 a (subst (λ (ids : List Id). Contains ids a) (ap (λ n. n.parents) node.3) among)) in
      link_held server closed id (link_of Commit a)
      (record { object = o; held = held; links = all; reads = subst L (sym is) (node.0, node.1, node.2, refl); among = in_all })
  parents_held id o entry held Tag is node a among =
      let all = link_of node.1 node.0 ∷ [] in
      let L : ObjectType → Type 0 = λ k. LinksOf k o.body all in
      let target : a ≡ node.0 = only_one node.0 a (subst (λ (ids : List Id). Contains ids a) (ap (λ n. n.parents) node.3) among) in
      subst (Holds server) (sym target)
      (link_held server closed id (link_of node.1 node.0)
      (record { object = o; held = held; links = all; reads = subst L (sym is) (node.0, node.1, node.2, refl); among = contains_head (link_of node.1 node.0) [] }))
  parents_held id o entry held Tree is node a among = nothing_in_nil a (subst (λ (ids : List Id). Contains ids a) (ap (λ n. n.parents) node) among)
  parents_held id o entry held Blob is node a among = nothing_in_nil a (subst (λ (ids : List Id). Contains ids a) (ap (λ n. n.parents) node) among)

  parent_held : (a : Id) → IsParent entries a → Holds server a
  parent_held a is =
      let d = All-contains (Describes server) entries is.entry describes is.listed in
      parents_held is.entry.id d.object is.entry d.held d.object.kind refl d.node a is.among

  reached : (a : Id) → IsBelowListed IsNameOf entries a → (IsBelowListed (IsHeld server) entries a × Holds server a) ⊎ HasCollision server
  reached a is =
      elim (down is.root a (listed_held is.root is.listed) is.leads) [
        | inl both ↦ inl (record { root = is.root; listed = is.listed; leads = both.0 }, both.1)
        | inr found ↦ inr found
      ]

  at_client : (a : Id) → IsBelowLeftOut IsNameOf entries fates a → IsBelowLeftOut (IsHeld server) entries fates a ⊎ HasCollision server
  at_client a is =
      elim (down is.parent a (parent_held is.parent is.of_entry) is.leads) [
        | inl both ↦ inl (record { parent = is.parent; of_entry = is.of_entry; left_out = is.left_out; leads = both.0 })
        | inr found ↦ inr found
      ]

  blob : (a : Id) → IsNamedBlob IsNameOf fates a → IsNamedBlob (IsHeld server) fates a ⊎ HasCollision server
  blob a is = first (reached is.by (gathered.from is.by is.sent))
    where
      then_on : IsFollowed (IsHeld server) is.by (link_of Blob a) ⊎ HasCollision server → IsNamedBlob (IsHeld server) fates a ⊎ HasCollision server
      then_on (inl mine) = inl (record { by = is.by; sent = is.sent; names = mine })
      then_on (inr found) = inr found

      first : (IsBelowListed (IsHeld server) entries is.by × Holds server is.by) ⊎ HasCollision server → IsNamedBlob (IsHeld server) fates a ⊎ HasCollision server
      first (inl both) = then_on (follow is.by (link_of Blob a) both.1 is.names)
      first (inr found) = inr found

  abbrev IsMet : Id → Type 0
  IsMet a = IsNamedBlob (IsHeld server) fates a ⊎ IsWalked (IsHeld server) (ids_of entries) fates a

  walked_here : (a : Id) → Holds server a → IsWalked IsNameOf (ids_of entries) fates a
      → IsWalked (IsHeld server) (ids_of entries) fates a ⊎ HasCollision server
  walked_here a held is =
      elim (same a is.object is.read held) [
        | inl mine ↦ inl (record { object = is.object; read = mine; part = is.part; links = is.links; follows = is.follows; each = is.each })
        | inr found ↦ inr found
      ]

  -- a listed object was walked
  root_held : (a : Id) → IsListed entries a → IsWalked (IsHeld server) (ids_of entries) fates a ⊎ HasCollision server
  root_held a listed =
      elim (reached a (gathered.from a (gathered.listed a listed))) [
        | inl both ↦ walked_here a both.1 (gathered.roots a listed)
        | inr found ↦ inr found
      ]

  met : (a : Id) → Holds server a → IsNamedBlob IsNameOf fates a ⊎ IsWalked IsNameOf (ids_of entries) fates a → IsMet a ⊎ HasCollision server
  met a held (inl is) =
      elim (blob a is) [
        | inl mine ↦ inl (inl mine)
        | inr found ↦ inr found
      ]
  met a held (inr is) =
      elim (walked_here a held is) [
        | inl mine ↦ inl (inr mine)
        | inr found ↦ inr found
      ]

  -- what is said of a decided id
  abbrev IsGood : Id → Type 0
  IsGood a = (IsSentAt fates a → IsMet a × IsBelowListed (IsHeld server) entries a) × (IsLeftOut fates a → IsBelowLeftOut (IsHeld server) entries fates a)

  sent_good : (a : Id) (fate : Fate) → fate_at fates a ≡ Some fate → IsSentAt fates a → fate ≢ NotSent → IsGood a ⊎ HasCollision server
  sent_good a fate at is other = first (reached a (gathered.from a is))
    where
      then_on : IsBelowListed (IsHeld server) entries a → IsMet a ⊎ HasCollision server → IsGood a ⊎ HasCollision server
      then_on from_listed (inl mine) = inl ((λ _. (mine, from_listed)), (λ out. absurd (other (same_Some fate NotSent (sym at ∙ out)))))
      then_on from_listed (inr found) = inr found

      first : (IsBelowListed (IsHeld server) entries a × Holds server a) ⊎ HasCollision server → IsGood a ⊎ HasCollision server
      first (inl both) = then_on both.0 (met a both.1 (gathered.walked a is))
      first (inr found) = inr found

  left_good : (a : Id) → fate_at fates a ≡ Some NotSent → IsGood a ⊎ HasCollision server
  left_good a at =
      elim (at_client a (gathered.left_out a at)) [
        | inl mine ↦ inl ((λ is. absurd (false≢true (sym (ap is_sent_at at) ∙ is))), (λ _. mine))
        | inr found ↦ inr found
      ]

  good : (a : Id) → IsGood a ⊎ HasCollision server
  good a = by (fate_at fates a) refl
    where
      by : (f : Option Fate) → fate_at fates a ≡ f → IsGood a ⊎ HasCollision server
      by None none = inl ((λ is. absurd (false≢true (sym (ap is_sent_at none) ∙ is))), (λ out. absurd (none-some NotSent (sym none ∙ out))))
      by (Some NotSent) some = left_good a some
      by (Some (Sent path)) some = sent_good a (Sent path) some (ap is_sent_at some) (λ is. true≢false (ap is_sent is))

  all_held : IsOfDecided IsGood fates → All (IsWalked (IsHeld server) (ids_of entries) fates) (ids_of entries)
      → IsGathered (IsHeld server) entries fates
  all_held every roots = record {
    distinct = gathered.distinct;
    listed = gathered.listed;
    parents = gathered.parents;
    roots = λ a listed. All-contains (IsWalked (IsHeld server) (ids_of entries) fates) (ids_of entries) a roots listed;
    walked = λ a is. let f = sent_fate fates a is in ((every a f.0 f.1).0 is).0;
    from = λ a is. let f = sent_fate fates a is in ((every a f.0 f.1).0 is).1;
    left_out = λ a out. (every a NotSent out).1 out;
  }

  held_now : IsGathered (IsHeld server) entries fates ⊎ HasCollision server
  held_now =
      elim (for_decided IsGood (HasCollision server) good fates) [
        | inl every ↦
            elim (each_or (IsWalked (IsHeld server) (ids_of entries) fates) (HasCollision server) (ids_of entries) root_held) [
              | inl roots ↦ inl (all_held every roots)
              | inr found ↦ inr found
            ]
        | inr found ↦ inr found
      ]

pub gathered_held : (A : Type 0) → GatheredIsHeld A
gathered_held A server entries fates named closed describes gathered = held_now server entries fates named closed describes gathered
