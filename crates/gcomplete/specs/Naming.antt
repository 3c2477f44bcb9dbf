-- The ids of the objects of a store (gitglossary(7), "object name"; git-hash-object(1)).
use Rattle.std.specs.Prelude.{◌≡◌, ◌≢◌, ℕ, ◌<◌, ◌^◌, List, Some, length, slice_index}
use Rattle.gname.specs.Ids.{Id}
use Rattle.gitobject.specs.Naming.{id_of, object_text}
use Rattle.sha1.specs.Sha1.{sha1}
use Rattle.gcomplete.specs.Stores.{GitObject, Store}

-- the text of an object, whose SHA-1 is its id
abbrev pub text_of : GitObject → List ℕ
text_of o = object_text o.kind o.body

-- the id is the id of the object, whose body consists of fewer than 2^64 bytes
pub record IsNameOf (a : Id) (o : GitObject) : Type 0 where
  pub name : a ≡ id_of o.kind o.body
  pub bytes : (i : ℕ) → slice_index o.body i < 256
  pub sized : length o.body < 2 ^ 64

-- the store has each object under the id of the object
abbrev pub IsNamed : Store → Type 0
IsNamed s = (a : Id) (o : GitObject) → s a ≡ Some o → IsNameOf a o

-- two different texts with the same SHA-1
pub record IsCollision (text other : List ℕ) : Type 0 where
  pub differ : text ≢ other
  pub same : sha1 text ≡ sha1 other

-- two stores have objects with the same id whose texts differ and have the same SHA-1
pub record Collide (s t : Store) : Type 0 where
  pub id : Id
  pub object : GitObject
  pub other : GitObject
  pub mine : s id ≡ Some object
  pub theirs : t id ≡ Some other
  pub collision : IsCollision (text_of object) (text_of other)
