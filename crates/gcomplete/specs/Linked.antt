-- Objects of which only ids and types are kept, and whose links lead to objects.
use Rattle.std.specs.Prelude.{◌≡◌, ◌⊎◌, ℕ, List, All, Some}
use Rattle.gname.specs.Ids.{Id}
use Rattle.gitobject.specs.declared.links.Link.{Link}
use Rattle.gitobject.specs.declared.types.ObjectType.{ObjectType}
use Rattle.gcomplete.specs.Stores.{AreTypesOf, Store, Types, joined, kind_at, object_of}
use Rattle.gcomplete.specs.Closed.{HasLinks, IsClosed, LeadsIn}
use Rattle.gcomplete.specs.Naming.{Collide, IsNameOf, IsNamed}

-- there is an object with this id and this type, and each of its links leads somewhere
pub record IsLinked (Leads : Link → Type 0) (a : Id) (kind : ObjectType) : Type 0 where
  pub body : List ℕ
  pub name : IsNameOf a (object_of kind body)
  pub links : List Link
  pub reads : HasLinks (object_of kind body) links
  pub each : All Leads links

-- a link leads to one of the kept ids or to an object of the store, with the type of the link
abbrev pub LeadsTo : Types → Store → Link → Type 0
LeadsTo types s link = (kind_at types link.id ≡ Some link.kind) ⊎ LeadsIn s link

-- there is an object for each kept id, and its links lead to kept ids or to objects of the store
abbrev pub AreLinkedTo : Types → Store → Type 0
AreLinkedTo types s = (a : Id) (kind : ObjectType) → kind_at types a ≡ Some kind → IsLinked (LeadsTo types s) a kind

-- There is a store of the objects with these ids and types. Together with the store `s` it is closed, or the two stores
-- collide.
pub record HasClosed (types : Types) (s : Store) : Type 0 where
  pub added : Store
  pub types_of : AreTypesOf types added
  pub named : IsNamed added
  pub closed : IsClosed (joined s added) ⊎ Collide s added
