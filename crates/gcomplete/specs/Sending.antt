-- The objects that an honest server sends (gitprotocol-v2(5), "fetch").
use Rattle.std.specs.Prelude.{◌≡◌, ◌⊎◌, List, All, Contains, Some}
use Rattle.gname.specs.Ids.{Id}
use Rattle.gitobject.specs.declared.links.Link.{Link}
use Rattle.gcomplete.specs.Stores.{GitObject, Holds, Store}
use Rattle.gcomplete.specs.Closed.{HasLinks, Reaches}

-- the store `t` has each object of the store `s`, under the same id
abbrev pub IsPartOf : Store → Store → Type 0
IsPartOf s t = (a : Id) (o : GitObject) → s a ≡ Some o → t a ≡ Some o

-- the link leads to an object of the pack, or to an object that one of the known ids reaches at the server
abbrev pub LeadsOnward : Store → Store → List Id → Link → Type 0
LeadsOnward server pack known link =
    Holds pack link.id ⊎ ((a : Id) × Contains known a × Reaches server a link.id)

-- A server sends these objects to a client that has the known ids. They are objects of the server. Each of their links
-- leads to an object of the pack, or to an object that a known id reaches.
pub record IsSent (server pack : Store) (known : List Id) : Type 0 where
  pub own : IsPartOf pack server
  pub onward : (a : Id) (o : GitObject) (links : List Link) → pack a ≡ Some o → HasLinks o links
      → All (LeadsOnward server pack known) links
