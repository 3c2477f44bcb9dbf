-- The ids, types and links of objects that are added together, and the ids and types of a closed store.
use Rattle.std.specs.Prelude.{◌≡◌, List, [], All, Option, Some}
use Rattle.std.specs.Map.{lookup}
use Rattle.std.specs.Str.{bytes_eq}
use Rattle.gname.specs.Ids.{Id}
use Rattle.gitobject.specs.Trees.{link_of}
use Rattle.gitobject.specs.declared.links.Link.{Link}
use Rattle.gitobject.specs.declared.types.ObjectType.{ObjectType}
use Rattle.gcomplete.specs.Stores.{AreTypesOf, GitObject, Store, Types, kind_at}
use Rattle.gcomplete.specs.Closed.{HasLink, HasLinks, IsClosed}
use Rattle.gcomplete.specs.Naming.{IsNamed}
use Rattle.gcomplete.specs.declared.needs.Need.{Need}

-- the ids that objects name, each with the type of the link and the id of an object that has this link
abbrev pub Needs : Type 0
Needs = List (Id × Need)

abbrev pub need_at : Needs → Id → Option Need
need_at needs a = lookup (bytes_eq a) needs

-- the object that a link of the object `id` needs
abbrev pub need_of : Id → Link → Need
need_of id link = record { kind = link.kind; by = id }

-- the link is recorded
pub record IsNoted (needs : Needs) (link : Link) : Type 0 where
  pub need : Need
  pub noted : need_at needs link.id ≡ Some need
  pub typed : need.kind ≡ link.kind

-- the types and links of objects that are added together
pub record Noted : Type 0 where
  pub types : Types
  pub needs : Needs

-- each link of an object is recorded
pub record AreLinksNoted (needs : Needs) (o : GitObject) : Type 0 where
  pub links : List Link
  pub reads : HasLinks o links
  pub each : All (IsNoted needs) links

-- The ids, types and links of a batch are exactly those of these objects. Each object has its own id.
pub record IsBatchOf (noted : Noted) (objects : Store) : Type 0 where
  pub types : AreTypesOf noted.types objects
  pub named : IsNamed objects
  pub each : (a : Id) (o : GitObject) → objects a ≡ Some o → AreLinksNoted noted.needs o
  pub only : (a : Id) (need : Need) → need_at noted.needs a ≡ Some need
      → HasLink objects need.by (link_of need.kind a)

-- the ids, types and links are those of some objects
abbrev pub HasObjects : Noted → Type 0
HasObjects noted = (objects : Store) × IsBatchOf noted objects

-- the empty batch
abbrev pub nothing : Noted
nothing = record { types = []; needs = [] }

-- The ids and types are those of a closed store. Each object of this store has its own id.
pub record AreJudged (kept : Types) (objects : Store) : Type 0 where
  pub types : AreTypesOf kept objects
  pub named : IsNamed objects
  pub closed : IsClosed objects

-- the ids and types are those of some closed store
abbrev pub HasJudged : Types → Type 0
HasJudged kept = (objects : Store) × AreJudged kept objects

-- each id of `old` has the same type in `new`
abbrev pub KeepsTypes : Types → Types → Type 0
KeepsTypes old new = (a : Id) (kind : ObjectType) → kind_at old a ≡ Some kind → kind_at new a ≡ Some kind
