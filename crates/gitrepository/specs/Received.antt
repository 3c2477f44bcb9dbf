-- The objects of a received pack (git-index-pack(1), "--strict"; git-fsck(1)).
use Rattle.std.specs.Prelude.{◌⊎◌, ⊤, List, All, Contains}
use Rattle.gname.specs.Ids.{Id}
use Rattle.gobject.specs.declared.node.Entry.{Entry}
use Rattle.gcomplete.specs.Linked.{IsLinked}
use Rattle.gitobject.specs.Trees.{link_of}
use Rattle.gitobject.specs.declared.links.Link.{Link}
use Rattle.gitobject.specs.declared.types.ObjectType.{ObjectType}
use Rattle.gitpack.specs.Indexes.{object_id}
use Rattle.gitpack.specs.declared.indexing.IndexedEntry.{IndexedEntry}
use Rattle.gitwalk.specs.Received.{IsInPack}

-- The link leads to an object of the pack, or to a prerequisite. A prerequisite is the id and the type of an object
-- that must be elsewhere.
abbrev pub Leads : List Link → List IndexedEntry → Link → Type 0
Leads prerequisites objects link = IsInPack objects link ⊎ Contains prerequisites link

-- an object of the pack or a prerequisite has this id
abbrev pub IsInReceived : List Link → List IndexedEntry → Id → Type 0
IsInReceived prerequisites objects id = (kind : ObjectType) × Leads prerequisites objects (link_of kind id)

-- the same for the id of an entry of a graph
abbrev pub IsEntryInReceived : {A : Type 0} → List Link → List IndexedEntry → Entry A → Type 0
IsEntryInReceived prerequisites objects entry = IsInReceived prerequisites objects entry.id

-- There is a well-formed object with this type, whose SHA-1 is this id. Each of its links leads to an object of the
-- pack or to a prerequisite. The definition does not say that the pack contains the bytes of the object.
abbrev pub IsLinkedEntry : List Link → List IndexedEntry → IndexedEntry → Type 0
IsLinkedEntry prerequisites objects object = IsLinked (Leads prerequisites objects) (object_id object) object.kind

-- the same for each object of the pack
abbrev pub AreLinked : List Link → List IndexedEntry → Type 0
AreLinked prerequisites objects = All (IsLinkedEntry prerequisites objects) objects

-- The definition says nothing, because contracts cannot describe the contents of system files. The reader of the store
-- returned the type of the link for the id of the link.
abbrev pub IsStored : Link → Type 0
IsStored link = ⊤
