-- The types of objects (gitglossary(7), "object type").
use Rattle.std.specs.Prelude.{ℕ, List, codes}
use Rattle.gitobject.specs.declared.types.ObjectType.{ObjectType}
use Rattle.gitobject.specs.declared.types.ObjectType.TheVariants.{Commit, Tree, Blob, Tag}

-- the name of an object type
abbrev pub type_name : ObjectType → List ℕ
type_name Commit = codes "commit"
type_name Tree = codes "tree"
type_name Blob = codes "blob"
type_name Tag = codes "tag"

-- the number of an object type in a pack (gitformat-pack(5), "Object types")
abbrev pub pack_number : ObjectType → ℕ
pack_number Commit = 1
pack_number Tree = 2
pack_number Blob = 3
pack_number Tag = 4
