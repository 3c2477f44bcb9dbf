-- The objects of a received pack.
use Rattle.std.specs.Prelude.{◌≡◌, List, Contains}
use Rattle.gitobject.specs.declared.links.Link.{Link}
use Rattle.gitpack.specs.Indexes.{object_id}
use Rattle.gitpack.specs.declared.indexing.IndexedEntry.{IndexedEntry}

-- the pack has an object with the id and the type of the link
pub record IsInPack (objects : List IndexedEntry) (link : Link) : Type 0 where
  pub object : IndexedEntry
  pub among : Contains objects object
  pub id : object_id object ≡ link.id
  pub kind : object.kind ≡ link.kind
