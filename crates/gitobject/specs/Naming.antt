-- The ids of objects (gitglossary(7), "object name"; git-hash-object(1)).
use Rattle.std.specs.Prelude.{ℕ, List, ◌∷◌, ◌++◌, decimal, length}
use Rattle.sha1.specs.Sha1.{sha1}
use Rattle.gname.specs.Ids.{Id}
use Rattle.gitobject.specs.Types.{type_name}
use Rattle.gitobject.specs.declared.types.ObjectType.{ObjectType}

-- The text of an object: the name of its type, a space, its length in decimal, NUL, and its bytes. A loose object file
-- contains this text in compressed form.
abbrev pub object_text : ObjectType → List ℕ → List ℕ
object_text kind body = type_name kind ++ 32 ∷ (decimal (length body) ++ 0 ∷ body)

-- the id of an object: the SHA-1 of its text
abbrev pub id_of : ObjectType → List ℕ → Id
id_of kind body = sha1 (object_text kind body)
