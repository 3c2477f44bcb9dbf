-- The objects that are sent for a list of commits and tags (git-rev-list(1), "--objects"). Objects that the client has
-- are left out.
use Rattle.std.specs.Prelude.{◌≡◌, ◌⊎◌, ℕ, Bool, true, false, List, [], ◌∷◌, All, Contains, Option, None, Some, length}
use Rattle.std.specs.List.{IsDistinct, filter}
use Rattle.std.specs.Map.{keys_of, lookup}
use Rattle.std.specs.Option.{option_map}
use Rattle.std.specs.Str.{bytes_eq}
use Rattle.gname.specs.Ids.{Id}
use Rattle.gobject.specs.declared.node.Entry.{Entry}
use Rattle.gitobject.specs.Links.{IsCommit, LinksOf}
use Rattle.gitobject.specs.Trees.{link_of}
use Rattle.gitobject.specs.declared.links.Link.{Link}
use Rattle.gitobject.specs.declared.types.ObjectType.{ObjectType}
use Rattle.gitobject.specs.declared.types.ObjectType.TheVariants.{Commit, Tree, Blob, Tag}
use Rattle.gcomplete.specs.Stores.{GitObject}
use Rattle.gitwalk.specs.Entries.{ids_of}
use Rattle.gitwalk.specs.declared.fates.Decided.{Decided}
use Rattle.gitwalk.specs.declared.fates.Fate.{Fate}
use Rattle.gitwalk.specs.declared.fates.Fate.TheVariants.{Sent, NotSent}

-- ---- fates

-- the ids whose fates are decided, in the order of decision
abbrev pub Fates : Type 0
Fates = List (Id × Decided)

-- the ids are distinct
abbrev pub AreDistinct : Fates → Type 0
AreDistinct fates = IsDistinct bytes_eq (keys_of fates)

abbrev pub fate_of : Decided → Fate
fate_of decided = decided.fate

-- the decision about this id, or `None` if the fate is undecided
abbrev pub decided_at : Fates → Id → Option Decided
decided_at fates a = lookup (bytes_eq a) fates

-- the fate of this id, or `None` if the fate is undecided
abbrev pub fate_at : Fates → Id → Option Fate
fate_at fates a = option_map fate_of (decided_at fates a)

-- whether an object with this fate is sent
abbrev pub is_sent : Fate → Bool
is_sent (Sent path) = true
is_sent NotSent = false

abbrev pub is_sent_at : Option Fate → Bool
is_sent_at None = false
is_sent_at (Some fate) = is_sent fate

-- the object with this id is sent
abbrev pub IsSentAt : Fates → Id → Type 0
IsSentAt fates a = is_sent_at (fate_at fates a) ≡ true

abbrev pub is_sent_pair : Id × Decided → Bool
is_sent_pair pair = is_sent pair.1.fate

-- the number of objects that are sent
abbrev pub sent_count : Fates → ℕ
sent_count fates = length (filter is_sent_pair fates)

-- the object with this id is left out
abbrev pub IsLeftOut : Fates → Id → Type 0
IsLeftOut fates a = fate_at fates a ≡ Some NotSent

-- the object with this id is sent or left out
abbrev pub IsDecided : Fates → Id → Type 0
IsDecided fates a = (fate : Fate) × (fate_at fates a ≡ Some fate)

abbrev pub LeadsToDecided : Fates → Link → Type 0
LeadsToDecided fates link = IsDecided fates link.id

-- ---- the links that are followed

-- The links to trees and blobs: the tree of a commit, and the objects of a tree. The links to the parents of a commit
-- and to the target of a tag are not followed. A graph has these objects.
abbrev pub FollowedOf : ObjectType → List ℕ → List Link → Type 0
FollowedOf Commit body links = (tree : Id) × (parents : List Id) × IsCommit body tree parents × (links ≡ link_of Tree tree ∷ [])
FollowedOf Tree body links = LinksOf Tree body links
FollowedOf Blob body links = links ≡ []
FollowedOf Tag body links = links ≡ []

-- The relation `has` says which object was read for an id. The object that was read for the id `a` has the link.
pub record IsFollowed (has : Id → GitObject → Type 0) (a : Id) (link : Link) : Type 0 where
  pub object : GitObject
  pub read : has a object
  pub links : List Link
  pub follows : FollowedOf object.kind object.body links
  pub among : Contains links link

-- an id leads to itself, and to everything that the followed links lead to
pub data LeadsDown (has : Id → GitObject → Type 0) (a : Id) : Id → Type 0 where
  here : LeadsDown has a a
  onward : {b : Id} (link : Link) → LeadsDown has a b → IsFollowed has b link → LeadsDown has a link.id

-- ---- the objects that are sent for a list of commits and tags

-- one of the entries has this id
abbrev pub IsListed : {A : Type 0} → List (Entry A) → Id → Type 0
IsListed entries a = Contains (ids_of entries) a

-- one of the entries has the parent `a`
pub record IsParent {A : Type 0} (entries : List (Entry A)) (a : Id) : Type 0 where
  pub entry : Entry A
  pub listed : Contains entries entry
  pub among : Contains entry.node.parents a

-- The object was read. The object is a tree, or its id is listed. Each of its followed links leads to a decided id.
pub record IsWalked (has : Id → GitObject → Type 0) (listed : List Id) (fates : Fates) (a : Id) : Type 0 where
  pub object : GitObject
  pub read : has a object
  pub part : (object.kind ≡ Tree) ⊎ Contains listed a
  pub links : List Link
  pub follows : FollowedOf object.kind object.body links
  pub each : All (LeadsToDecided fates) links

-- an object that is sent names the id as a blob
pub record IsNamedBlob (has : Id → GitObject → Type 0) (fates : Fates) (a : Id) : Type 0 where
  pub by : Id
  pub sent : IsSentAt fates by
  pub names : IsFollowed has by (link_of Blob a)

-- a listed object leads to the id
pub record IsBelowListed {A : Type 0} (has : Id → GitObject → Type 0) (entries : List (Entry A)) (a : Id) : Type 0 where
  pub root : Id
  pub listed : IsListed entries root
  pub leads : LeadsDown has root a

-- A parent of an entry leads to the id. The parent is left out too, because the client has it.
pub record IsBelowLeftOut {A : Type 0} (has : Id → GitObject → Type 0) (entries : List (Entry A)) (fates : Fates) (a : Id) : Type 0 where
  pub parent : Id
  pub of_entry : IsParent entries parent
  pub left_out : IsLeftOut fates parent
  pub leads : LeadsDown has parent a

-- The ids are distinct. The listed objects are sent, and their parents are sent or left out. Each sent object was read,
-- unless it is not listed and a sent object names it as a blob. Its followed links lead to objects that are sent or
-- left out. Only what a listed object leads to is sent. Only what a left-out parent leads to is left out.
pub record IsGathered {A : Type 0} (has : Id → GitObject → Type 0) (entries : List (Entry A)) (fates : Fates) : Type 0 where
  pub distinct : AreDistinct fates
  pub listed : (a : Id) → IsListed entries a → IsSentAt fates a
  pub parents : (a : Id) → IsParent entries a → IsDecided fates a
  pub roots : (a : Id) → IsListed entries a → IsWalked has (ids_of entries) fates a
  pub walked : (a : Id) → IsSentAt fates a → IsNamedBlob has fates a ⊎ IsWalked has (ids_of entries) fates a
  pub from : (a : Id) → IsSentAt fates a → IsBelowListed has entries a
  pub left_out : (a : Id) → IsLeftOut fates a → IsBelowLeftOut has entries fates a
