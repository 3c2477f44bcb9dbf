-- The steps of the walk that decides which objects are sent.
use Rattle.std.specs.Prelude.{◌≡◌, ◌≢◌, ◌⊎◌, ℕ, Bool, false, true, List, [], All, Contains, Option, None, Some, map, if◌then◌else◌}
use Rattle.std.specs.Str.{bytes_eq}
use Rattle.gname.specs.Ids.{Id}
use Rattle.gobject.specs.declared.node.Entry.{Entry}
use Rattle.gitobject.specs.Trees.{link_of}
use Rattle.gitobject.specs.declared.links.Link.{Link}
use Rattle.gitobject.specs.declared.types.ObjectType.{ObjectType}
use Rattle.gitobject.specs.declared.types.ObjectType.TheVariants.{Tree}
use Rattle.gitobjects.specs.declared.store.Found.{Found}
use Rattle.gcomplete.specs.Stores.{GitObject}
use Rattle.gitwalk.specs.Entries.{ids_of}
use Rattle.gitwalk.specs.Gathering.{Fates, FollowedOf, IsBelowLeftOut, IsBelowListed, IsDecided, IsLeftOut, IsListed, IsNamedBlob, IsSentAt, IsWalked, decided_at, fate_at, is_sent, is_sent_pair}
use Rattle.gitwalk.specs.Received.{IsInPack}
use Rattle.gitwalk.specs.StoredTrees.{IsLookedUp, IsTreeRead, LeadsToKnown}
use Rattle.gitwalk.specs.declared.fates.Decided.{Decided}
use Rattle.gitwalk.specs.declared.fates.Fate.{Fate}
use Rattle.gitwalk.specs.declared.walk.PendingTree.{PendingTree}
use Rattle.gitwalk.specs.declared.walk.Walk.{Walk}

-- the id, the location and the fate of a decided object
abbrev pub decision_of : Id × Decided → Id × Found × Fate
decision_of pair = (pair.0, pair.1.found, pair.1.fate)

-- whether there is an object, and it is sent
abbrev pub is_sent_some : Option (Id × Decided) → Bool
is_sent_some None = false
is_sent_some (Some pair) = is_sent_pair pair

-- the id `a` is decided in this way in `new`, and each other id is decided as in `old`
abbrev pub Puts : Fates → Id → Decided → Fates → Type 0
Puts old a decided new = (b : Id) → decided_at new b ≡ (if bytes_eq a b then Some decided else decided_at old b)

-- nothing that is decided changes
abbrev pub StaysDecided : Fates → Fates → Type 0
StaysDecided old new = (a : Id) (decided : Decided) → decided_at old a ≡ Some decided → decided_at new a ≡ Some decided

-- the walk has no received pack, or an empty one
abbrev pub HasNoReceived : {A : Type 0} → Walk A → Type 0
HasNoReceived walk = walk.received.now ≡ []

-- the received pack has an object with the id and the type of the link
abbrev pub IsReceived : {A : Type 0} → Walk A → Link → Type 0
IsReceived walk link = IsInPack walk.received.now link

-- the fate of the id is decided, or the received pack has an object with this id
abbrev pub IsCovered : {A : Type 0} → Walk A → Id → Type 0
IsCovered walk a = IsDecided walk.fates a ⊎ ((kind : ObjectType) × IsReceived walk (link_of kind a))

-- the fate of the object is decided, and no earlier link gives the object another type
abbrev pub IsDecidedAs : Fates → Link → Type 0
IsDecidedAs fates link = (decided : Decided) × (decided_at fates link.id ≡ Some decided) × ((decided.kind ≡ None) ⊎ (decided.kind ≡ Some link.kind))

-- The received pack has the object, with the type of the link. Or the fate of the object is decided, and no earlier
-- link gives the object another type.
abbrev pub LeadsToCovered : {A : Type 0} → Walk A → Link → Type 0
LeadsToCovered walk link = IsReceived walk link ⊎ IsDecidedAs walk.fates link

-- the object `a` was undecided, was found at the location in `decided`, and is now decided in this way
pub record SetsFate (located : Id → Found → Type 0) (old : Fates) (a : Id) (decided : Decided) (new : Fates) : Type 0 where
  pub undecided : decided_at old a ≡ None
  pub puts : Puts old a decided new
  pub found : located a decided.found

-- the fate and the type of the id are set, unless the id was decided
abbrev pub Decides : {A : Type 0} → (Id → Found → Type 0) → Walk A → Id → Option ObjectType → Fate → Option Found → Walk A → Type 0
Decides located old a kind fate None new = IsDecided old.fates a × (new.fates ≡ old.fates)
Decides located old a kind fate (Some found) new = SetsFate located old.fates a (record { fate = fate; found = found; kind = kind }) new.fates

-- the fate of the id is set, unless the id was covered
abbrev pub Settles : {A : Type 0} → (Id → Found → Type 0) → Walk A → Id → Fate → Option Found → Walk A → Type 0
Settles located old a fate None new = IsCovered old a × (new.fates ≡ old.fates)
Settles located old a fate (Some found) new = SetsFate located old.fates a (record { fate = fate; found = found; kind = None }) new.fates

abbrev pub id_of_tree : PendingTree → Id
id_of_tree tree = tree.id

-- the tree is waiting to be walked
abbrev pub IsPending : {A : Type 0} → Walk A → Id → Type 0
IsPending walk a = Contains (map id_of_tree walk.trees.items) a

-- the fate of the tree is decided
abbrev pub HasItsFate : Fates → PendingTree → Type 0
HasItsFate fates tree = fate_at fates tree.id ≡ Some tree.fate

-- The object was found at its location. A link leads to it, and the type of the link is recorded. If the link is a link
-- to a tree, the tree is waiting to be walked.
pub record IsNew {A : Type 0} (located : Id → Found → Type 0) (new : Walk A) (links : List Link) (a : Id) (decided : Decided) : Type 0 where
  pub found : located a decided.found
  pub kind : ObjectType
  pub linked : decided.kind ≡ Some kind
  pub among : Contains links (link_of kind a)
  pub waits : (kind ≢ Tree) ⊎ IsPending new a

-- The objects that these links lead to are covered. Each new fate is the fate of such an object.
pub record Notes {A : Type 0} (located : Id → Found → Type 0) (old : Walk A) (links : List Link) (sent : Bool) (new : Walk A) : Type 0 where
  pub received : new.received ≡ old.received
  pub keeps : StaysDecided old.fates new.fates
  pub each : All (LeadsToCovered new) links
  pub only : (a : Id) (decided : Decided) → decided_at new.fates a ≡ Some decided
      → (decided_at old.fates a ≡ Some decided) ⊎ ((is_sent decided.fate ≡ sent) × IsNew located new links a decided)
  pub pending : (a : Id) → IsPending old a → IsPending new a
  pub trees : All (HasItsFate old.fates) old.trees.items → All (HasItsFate new.fates) new.trees.items

-- the objects that the followed links of this object lead to are covered
pub record NotesObject {A : Type 0} (located : Id → Found → Type 0) (old : Walk A) (kind : ObjectType) (body : List ℕ) (sent : Bool) (new : Walk A) : Type 0 where
  pub links : List Link
  pub follows : FollowedOf kind body links
  pub notes : Notes located old links sent new

-- the object is waiting to be walked, was walked, or is named as a blob by a sent object
abbrev pub IsOnTheWay : {A : Type 0} → (Id → GitObject → Type 0) → List Id → List Id → Walk A → Id → Type 0
IsOnTheWay has listed waiting walk a =
    Contains waiting a ⊎ (IsNamedBlob has walk.fates a ⊎ (IsWalked has listed walk.fates a ⊎ IsPending walk a))

-- The walk of a list of commits and tags is under way. The listed objects, and the ids in `waiting`, are walked later.
pub record IsUnderWay {A : Type 0} (has : Id → GitObject → Type 0) (entries : List (Entry A)) (waiting : List Id) (walk : Walk A) : Type 0 where
  pub alone : HasNoReceived walk
  pub sent : (a : Id) → IsSentAt walk.fates a → IsOnTheWay has (ids_of entries) waiting walk a
  pub from : (a : Id) → IsSentAt walk.fates a → IsBelowListed has entries a
  pub left_out : (a : Id) → IsLeftOut walk.fates a → IsBelowLeftOut has entries walk.fates a
  pub trees : All (HasItsFate walk.fates) walk.trees.items

-- the same, while only the listed objects are still to be walked
abbrev pub IsOpen : {A : Type 0} → (Id → GitObject → Type 0) → List (Entry A) → Walk A → Type 0
IsOpen has entries walk = IsUnderWay has entries (ids_of entries) walk

-- The prerequisites of a received pack are looked up in the store. Each object that was looked up was found, and a link
-- gives it its type. Each tree was read, is waiting to be walked, or is one of `waiting`.
pub record IsLookingUp {A : Type 0} (has : Id → GitObject → Type 0) (located : Id → Found → Type 0) (waiting : List Id) (walk : Walk A) : Type 0 where
  pub linked : (a : Id) (decided : Decided) → decided_at walk.fates a ≡ Some decided → (kind : ObjectType) × (decided.kind ≡ Some kind)
  pub found : (a : Id) (decided : Decided) → decided_at walk.fates a ≡ Some decided → located a decided.found
  pub trees : (a : Id) → IsLookedUp walk.fates (link_of Tree a) → Contains waiting a ⊎ (IsPending walk a ⊎ IsTreeRead has walk.received.now walk.fates a)

-- the same, while each tree was read or is waiting to be walked
abbrev pub LooksUp : {A : Type 0} → (Id → GitObject → Type 0) → (Id → Found → Type 0) → Walk A → Type 0
LooksUp has located walk = IsLookingUp has located [] walk

-- the link leads to an object of the received pack, or to an object that was looked up
abbrev pub LeadsOn : {A : Type 0} → Walk A → Link → Type 0
LeadsOn walk link = LeadsToKnown walk.fates walk.received.now link

-- the id is decided: it is sent if this fate is to be sent, and left out if not
pub record HasFateAs (fates : Fates) (a : Id) (fate : Fate) : Type 0 where
  pub own : Fate
  pub decided : fate_at fates a ≡ Some own
  pub same : is_sent own ≡ is_sent fate

-- only listed objects are decided, and they are sent
pub record IsOnlyListed {A : Type 0} (entries : List (Entry A)) (fates : Fates) : Type 0 where
  pub sent : (a : Id) (fate : Fate) → fate_at fates a ≡ Some fate → is_sent fate ≡ true
  pub listed : (a : Id) (fate : Fate) → fate_at fates a ≡ Some fate → IsListed entries a

abbrev pub IsSentEntry : {A : Type 0} → Fates → Entry A → Type 0
IsSentEntry fates entry = IsSentAt fates entry.id

abbrev pub HasDecidedParents : {A : Type 0} → Fates → Entry A → Type 0
HasDecidedParents fates entry = All (IsDecided fates) entry.node.parents

abbrev pub IsWalkedEntry : {A : Type 0} → (Id → GitObject → Type 0) → List Id → Fates → Entry A → Type 0
IsWalkedEntry has listed fates entry = IsWalked has listed fates entry.id

-- the list has the id of the entry
abbrev pub HasIdIn : {A : Type 0} → List Id → Entry A → Type 0
HasIdIn listed entry = Contains listed entry.id
