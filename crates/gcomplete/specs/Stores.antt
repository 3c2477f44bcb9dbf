-- Objects, stores of objects, and the ids and types of a store (gitglossary(7), "object", "object database", "object
-- type").
use Rattle.std.specs.Prelude.{◌≡◌, ℕ, Bool, true, false, List, IsSome, Option, None, Some, if◌then◌else◌}
use Rattle.std.specs.Map.{lookup}
use Rattle.std.specs.Option.{option_map, option_or}
use Rattle.std.specs.Str.{bytes_eq}
use Rattle.gname.specs.Ids.{Id}
use Rattle.gitobject.specs.declared.types.ObjectType.{ObjectType}
use Rattle.gitobject.specs.declared.types.ObjectType.TheVariants.{Commit, Tree, Blob, Tag}

-- an object: its type, and its bytes
pub record GitObject : Type 0 where
  pub kind : ObjectType
  pub body : List ℕ

abbrev pub object_of : ObjectType → List ℕ → GitObject
object_of kind body = record { kind = kind; body = body }

abbrev pub kind_of : GitObject → ObjectType
kind_of o = o.kind

-- a store: for each id the object with this id, or `None` if the store lacks the object
abbrev pub Store : Type 0
Store = Id → Option GitObject

-- the store has an object with this id
abbrev pub Holds : Store → Id → Type 0
Holds s a = IsSome (s a)

-- the type of the object with this id in the store
abbrev pub kind_in : Store → Id → Option ObjectType
kind_in s a = option_map kind_of (s a)

-- the empty store
abbrev pub no_objects : Store
no_objects a = None

-- the objects of two stores; if both have an object with the same id, the object of the first store
abbrev pub joined : Store → Store → Store
joined s t a = option_or (s a) (t a)

-- the objects of a store, and one more object; if the store has the id, the object of the store
abbrev pub with_object : Store → Id → GitObject → Store
with_object s id o a = option_or (s a) (if bytes_eq id a then Some o else None)

-- ---- the ids and types of a store

-- ids, each with a type
abbrev pub Types : Type 0
Types = List (Id × ObjectType)

-- the type of this id
abbrev pub kind_at : Types → Id → Option ObjectType
kind_at types a = lookup (bytes_eq a) types

-- the type of a commit or a tag
abbrev pub is_history_type : ObjectType → Bool
is_history_type Commit = true
is_history_type Tag = true
is_history_type Tree = false
is_history_type Blob = false

-- an id with the type of a commit or a tag
abbrev pub is_commit_or_tag : Id × ObjectType → Bool
is_commit_or_tag pair = is_history_type pair.1

-- the ids and the types of the objects of a store
abbrev pub AreTypesOf : Types → Store → Type 0
AreTypesOf types s = (a : Id) → kind_at types a ≡ kind_in s a
