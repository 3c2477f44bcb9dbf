-- What is recorded of the objects of a pack while the pack arrives.
use Rattle.std.specs.Prelude.{◌≡◌, ◌⊎◌, ℕ, List, All, Contains, Some}
use Rattle.gname.specs.Ids.{Id}
use Rattle.gobject.specs.declared.node.Entry.{Entry}
use Rattle.gcomplete.specs.Judging.{IsKept}
use Rattle.gcomplete.specs.Linked.{IsLinked}
use Rattle.gcomplete.specs.Stores.{Types, kind_at}
use Rattle.gitobject.specs.Links.{LinksOf}
use Rattle.gitobject.specs.declared.links.Link.{Link}
use Rattle.gitobject.specs.declared.types.ObjectType.{ObjectType}
use Rattle.gitpack.specs.Indexes.{object_id}
use Rattle.gitpack.specs.declared.indexing.IndexedEntry.{IndexedEntry}
use Rattle.gitobject.specs.Trees.{link_of}
use Rattle.gitwalk.specs.Received.{IsInPack}
use Rattle.gitrepository.specs.Received.{Leads}
use Rattle.gitrepository.specs.declared.needs.ReadObject.{ReadObject}

-- the id of the link is recorded, with the type of the link
abbrev pub IsNeeded : Types → Link → Type 0
IsNeeded needs link = kind_at needs link.id ≡ Some link.kind

-- the object has links, and each of them is recorded
pub record AreLinksNeeded (needs : Types) (kind : ObjectType) (body : List ℕ) : Type 0 where
  pub links : List Link
  pub reads : LinksOf kind body links
  pub each : All (IsNeeded needs) links

-- an object that was read from the pack: each of its links is recorded
abbrev pub IsReadObject : Types → ReadObject → Type 0
IsReadObject needs object = IsLinked (IsNeeded needs) object.id object.kind

abbrev pub AreReadObjects : Types → List ReadObject → Type 0
AreReadObjects needs objects = All (IsReadObject needs) objects

-- an object with this id was read
pub record IsReadId (objects : List ReadObject) (id : Id) : Type 0 where
  pub object : ReadObject
  pub among : Contains objects object
  pub same : object.id ≡ id

-- the id is the id of an object that was read, or a recorded id
abbrev pub IsRecorded : Types → List ReadObject → Id → Type 0
IsRecorded needs objects id = IsReadId objects id ⊎ IsKept needs id

-- the same for the id of an entry of a graph
abbrev pub IsEntryRecorded : {A : Type 0} → Types → List ReadObject → Entry A → Type 0
IsEntryRecorded needs objects entry = IsRecorded needs objects entry.id

-- what is recorded: the entries of the graph, the ids and types of the objects that were read, and the ids and types
-- that these objects name
pub record Arrived (A : Type 0) : Type 0 where
  pub entries : List (Entry A)
  pub objects : List ReadObject
  pub needs : Types

-- the index of the pack has the id and the type of the object that was read
abbrev pub IsInIndex : List IndexedEntry → ReadObject → Type 0
IsInIndex pack object = IsInPack pack (link_of object.kind object.id)

-- an entry of the index of the pack: each link of its object is recorded
abbrev pub IsReadEntry : Types → IndexedEntry → Type 0
IsReadEntry needs object = IsLinked (IsNeeded needs) (object_id object) object.kind

-- the link with this id and type leads to an object of the pack or to a prerequisite
abbrev pub LeadsFrom : List Link → List IndexedEntry → Id × ObjectType → Type 0
LeadsFrom prerequisites pack need = Leads prerequisites pack (link_of need.1 need.0)

-- no link is removed from the list
abbrev pub KeepsLinks : List Link → List Link → Type 0
KeepsLinks old new = (link : Link) → Contains old link → Contains new link
