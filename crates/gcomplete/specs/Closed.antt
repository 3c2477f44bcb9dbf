-- The objects that an object reaches, and stores that hold all of them (gitglossary(7), "reachable"; git-fsck(1)). The
-- links of an object are defined in gitobject. A gitlink in a tree is not a link (gitsubmodules(7)).
use Rattle.std.specs.Prelude.{◌≡◌, List, All, Contains, Some}
use Rattle.gname.specs.Ids.{Id}
use Rattle.gitobject.specs.Links.{LinksOf}
use Rattle.gitobject.specs.declared.links.Link.{Link}
use Rattle.gcomplete.specs.Stores.{GitObject, Holds, Store, kind_in}

-- the links of an object
abbrev pub HasLinks : GitObject → List Link → Type 0
HasLinks o links = LinksOf o.kind o.body links

-- the object with the id `a` has the link
pub record HasLink (s : Store) (a : Id) (link : Link) : Type 0 where
  pub object : GitObject
  pub held : s a ≡ Some object
  pub links : List Link
  pub reads : HasLinks object links
  pub among : Contains links link

-- an id reaches itself, and everything that the links of its object reach
pub data Reaches (s : Store) : Id → Id → Type 0 where
  here : {a : Id} → Reaches s a a
  onward : {a c : Id} (link : Link) → HasLink s a link → Reaches s link.id c → Reaches s a c

-- An id is complete in a store: the store holds everything that the id reaches. A malformed object reaches only itself.
abbrev pub IsComplete : Store → Id → Type 0
IsComplete s a = (b : Id) → Reaches s a b → Holds s b

-- the link leads to an object of the store, which has the type of the link
abbrev pub LeadsIn : Store → Link → Type 0
LeadsIn s link = kind_in s link.id ≡ Some link.kind

-- the object is well-formed, and each of its links leads to an object of the store, which has the type of the link
pub record HasAllLinks (s : Store) (o : GitObject) : Type 0 where
  pub links : List Link
  pub reads : HasLinks o links
  pub each : All (LeadsIn s) links

-- A store is closed: all its objects are well-formed, and their links lead to objects of the store.
abbrev pub IsClosed : Store → Type 0
IsClosed s = (a : Id) (o : GitObject) → s a ≡ Some o → HasAllLinks s o
