-- Laws that follow from the definitions of received packs.
use Rattle.std.specs.Prelude.{◌≡◌, ◌≢◌, ◌⊎◌, List, ◌++◌, All, Contains, Option, None, Some, map}
use Rattle.std.specs.List.{filter_map}
use Rattle.gname.specs.Ids.{Id}
use Rattle.gobject.specs.declared.node.Entry.{Entry}
use Rattle.gdag.specs.Graphs as graph
use Rattle.gitobject.specs.declared.links.Link.{Link}
use Rattle.gitobject.specs.declared.types.ObjectType.{ObjectType}
use Rattle.gitobject.specs.declared.types.ObjectType.TheVariants.{Tree}
use Rattle.gcomplete.specs.Closed.{IsClosed, IsComplete, LeadsIn}
use Rattle.gcomplete.specs.Linked.{HasClosed}
use Rattle.gcomplete.specs.Naming.{Collide, IsNameOf, IsNamed}
use Rattle.gcomplete.specs.Stores.{AreTypesOf, Holds, Store, Types, joined}
use Rattle.gitpack.specs.Indexes.{object_id}
use Rattle.gitpack.specs.declared.indexing.IndexedEntry.{IndexedEntry}
use Rattle.gitwalk.specs.Gathering.{Fates, decided_at}
use Rattle.gitrepository.specs.Received.{AreLinked, IsInReceived}
use Rattle.gitwalk.specs.StoredTrees.{AreTreesRead, IsLocated, IsLookedUp, linked_kind}

-- the id and the type of an object of a pack
abbrev pub type_of : IndexedEntry → Id × ObjectType
type_of object = (object_id object, object.kind)

abbrev pub types_of : List IndexedEntry → Types
types_of objects = map type_of objects

-- two objects of the pack have the same id, but different types
pub record HasTwoTypes (objects : List IndexedEntry) : Type 0 where
  pub object : IndexedEntry
  pub other : IndexedEntry
  pub first : Contains objects object
  pub second : Contains objects other
  pub same : object_id object ≡ object_id other
  pub differ : object.kind ≢ other.kind

-- The links of the objects of a pack lead to objects of the pack or to prerequisites, which a closed store has. Then
-- the store stays closed if the objects of the pack are added. The exception is a pack in which two objects have the
-- same id and different types.
abbrev pub PacksKeepClosed : Type 0
PacksKeepClosed =
    (prerequisites : List Link) (objects : List IndexedEntry) (s : Store) → IsNamed s → IsClosed s
    → AreLinked prerequisites objects → All (LeadsIn s) prerequisites → HasClosed (types_of objects) s ⊎ HasTwoTypes objects

-- There is a store of the objects of the pack. In this store and the store `s` together each kept id is complete, or
-- the two stores collide.
pub record CompletesKept (keeps : Id → Type 0) (objects : List IndexedEntry) (s : Store) : Type 0 where
  pub added : Store
  pub types : AreTypesOf (types_of objects) added
  pub named : IsNamed added
  pub complete : ((a : Id) → keeps a → IsComplete (joined s added) a) ⊎ Collide s added

-- A closed store has each object of a client's graph, and the prerequisites of a pack. The links of the objects of the
-- pack lead to objects of the pack or to prerequisites. The graph gains only ids of these objects and prerequisites.
-- Then each id of the graph is complete in the store and the objects of the pack together. The exception is a pack in
-- which two objects have the same id and different types. Without a pack the lists are empty.
abbrev pub KeptIsComplete : Type 0 → Type 0
KeptIsComplete A =
    (old new : List (Entry A)) (prerequisites : List Link) (objects : List IndexedEntry) (s : Store) → IsNamed s
    → IsClosed s → ((a : Id) → graph.Holds old a → Holds s a) → AreLinked prerequisites objects
    → All (LeadsIn s) prerequisites
    → ((a : Id) → graph.Holds new a → graph.Holds old a ⊎ IsInReceived prerequisites objects a)
    → CompletesKept (graph.Holds new) objects s ⊎ HasTwoTypes objects

-- ---- the trees of the store among the prerequisites

-- a tree that was looked up, in the form of an object of a pack
abbrev pub tree_at : Id → Option ObjectType → Option IndexedEntry
tree_at a (Some Tree) = Some (record { entry = record { id = a; crc = 0; offset = 0 }; kind = Tree })
tree_at a _ = None

-- the trees of the store that were looked up
abbrev pub trees_of : Fates → List IndexedEntry
trees_of fates = filter_map (λ pair. tree_at pair.0 (linked_kind (decided_at fates pair.0))) fates

-- the store has each object that was looked up, unless it is a tree
abbrev pub HasAllButTrees : Store → Fates → Type 0
HasAllButTrees s fates = (link : Link) → IsLookedUp fates link → link.kind ≢ Tree → LeadsIn s link

-- The same law, for a closed store that need not have the trees that were looked up, because they were read. The store
-- has all other objects that were looked up. Then each id of the graph is complete in this store, the objects of the
-- pack and the trees together.
abbrev pub ReadIsComplete : Type 0 → Type 0
ReadIsComplete A =
    (old new : List (Entry A)) (prerequisites : List Link) (objects : List IndexedEntry) (s : Store) → IsNamed s
    → IsClosed s → ((a : Id) → graph.Holds old a → Holds s a) → AreLinked prerequisites objects
    → (read : AreTreesRead IsNameOf IsLocated objects prerequisites) → HasAllButTrees s read.fates
    → ((a : Id) → graph.Holds new a → graph.Holds old a ⊎ IsInReceived prerequisites objects a)
    → CompletesKept (graph.Holds new) (objects ++ trees_of read.fates) s ⊎ HasTwoTypes (objects ++ trees_of read.fates)
