-- The prerequisites of a received pack, and the trees of the store among them (git-fsck(1), "--connectivity-only").
use Rattle.std.specs.Prelude.{◌≡◌, ◌⊎◌, ⊤, ℕ, List, All, Option, None, Some}
use Rattle.gname.specs.Ids.{Id}
use Rattle.gitobject.specs.Links.{LinksOf}
use Rattle.gitobject.specs.Trees.{link_of}
use Rattle.gitobject.specs.declared.links.Link.{Link}
use Rattle.gitobject.specs.declared.types.ObjectType.{ObjectType}
use Rattle.gitobject.specs.declared.types.ObjectType.TheVariants.{Tree}
use Rattle.gitobjects.specs.declared.store.Found.{Found}
use Rattle.gitpack.specs.declared.indexing.IndexedEntry.{IndexedEntry}
use Rattle.gcomplete.specs.Stores.{GitObject, object_of}
use Rattle.gitwalk.specs.Gathering.{Fates, decided_at}
use Rattle.gitwalk.specs.Received.{IsInPack}
use Rattle.gitwalk.specs.declared.fates.Decided.{Decided}

-- The definition says nothing, because contracts cannot describe the contents of system files. The meaning is that the
-- reader of the store found an object with this id at this location.
abbrev pub IsLocated : Id → Found → Type 0
IsLocated id found = ⊤

-- the type that a link gives a decided object, or `None` if no link was followed to it
abbrev pub linked_kind : Option Decided → Option ObjectType
linked_kind None = None
linked_kind (Some decided) = decided.kind

-- the object of the link was looked up, and a link gives it the same type
abbrev pub IsLookedUp : Fates → Link → Type 0
IsLookedUp fates link = (decided : Decided) × (decided_at fates link.id ≡ Some decided) × (decided.kind ≡ Some link.kind)

-- the link leads to an object of the pack, or to an object of the store that was looked up
abbrev pub LeadsToKnown : Fates → List IndexedEntry → Link → Type 0
LeadsToKnown fates objects link = IsInPack objects link ⊎ IsLookedUp fates link

-- The relation `has` says which object was read for an id. A tree was read for the id `a`. Each of its links leads to
-- an object of the pack, or to an object of the store that was looked up.
pub record IsTreeRead (has : Id → GitObject → Type 0) (objects : List IndexedEntry) (fates : Fates) (a : Id) : Type 0 where
  pub body : List ℕ
  pub read : has a (object_of Tree body)
  pub links : List Link
  pub reads : LinksOf Tree body links
  pub each : All (LeadsToKnown fates objects) links

-- The pack has these objects and prerequisites. Each prerequisite is an object of the pack, or was looked up in the
-- store. Each tree that was looked up was read. Each object that was looked up was found at its location.
pub record AreTreesRead (has : Id → GitObject → Type 0) (located : Id → Found → Type 0) (objects : List IndexedEntry) (prerequisites : List Link) : Type 0 where
  pub fates : Fates
  pub each : All (LeadsToKnown fates objects) prerequisites
  pub trees : (a : Id) → IsLookedUp fates (link_of Tree a) → IsTreeRead has objects fates a
  pub found : (a : Id) (decided : Decided) → decided_at fates a ≡ Some decided → located a decided.found
