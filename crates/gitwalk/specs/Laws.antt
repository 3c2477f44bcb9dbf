-- Laws of the objects that are sent for a list of commits and tags.
use Rattle.std.specs.Prelude.{◌≡◌, ◌⊎◌, List, All, Contains, None, Some, if◌then◌else◌}
use Rattle.gname.specs.Ids.{Id}
use Rattle.gobject.specs.declared.node.Entry.{Entry}
use Rattle.gcomplete.specs.Closed.{IsClosed}
use Rattle.gcomplete.specs.Naming.{IsCollision, IsNameOf, IsNamed, text_of}
use Rattle.gcomplete.specs.Sending.{IsSent}
use Rattle.gcomplete.specs.Stores.{GitObject, Store}
use Rattle.gitwalk.specs.Entries.{IsNodeOf}
use Rattle.gitwalk.specs.Gathering.{Fates, IsGathered, IsLeftOut, IsParent, fate_at, is_sent_at}

-- the store has this object under the id
abbrev pub IsHeld : Store → Id → GitObject → Type 0
IsHeld s a o = s a ≡ Some o

-- the graph entry describes the object that the store has under the same id
pub record Describes {A : Type 0} (s : Store) (entry : Entry A) : Type 0 where
  pub object : GitObject
  pub held : s entry.id ≡ Some object
  pub node : IsNodeOf object.kind object.body entry.node

-- another object has the id of an object of the store, and the two texts differ
pub record HasCollision (s : Store) : Type 0 where
  pub id : Id
  pub object : GitObject
  pub other : GitObject
  pub held : s id ≡ Some object
  pub name : IsNameOf id other
  pub collision : IsCollision (text_of object) (text_of other)

-- The walk read objects that have the ids by which they were read. A store is closed, has each object under its own id,
-- and has the objects that the entries describe. Then the objects that were read are those of the store, or another
-- object has the id of an object of the store.
abbrev pub GatheredIsHeld : Type 0 → Type 0
GatheredIsHeld A =
    (server : Store) (entries : List (Entry A)) (fates : Fates) → IsNamed server → IsClosed server
    → All (Describes server) entries → IsGathered IsNameOf entries fates
    → IsGathered (IsHeld server) entries fates ⊎ HasCollision server

-- the objects of a store that are sent
abbrev pub sent_from : Store → Fates → Store
sent_from s fates a = if is_sent_at (fate_at fates a) then s a else None

-- the list has each left-out parent of an entry
abbrev pub AreKnown : {A : Type 0} → List (Entry A) → Fates → List Id → Type 0
AreKnown entries fates known = (a : Id) → IsParent entries a → IsLeftOut fates a → Contains known a

-- The store of a server is closed, and the entries describe its objects. Then the objects that are sent for these
-- entries are those of an honest server. Each link of a sent object leads to a sent object, or to an object that a
-- left-out parent reaches. The known ids include the left-out parents.
abbrev pub GatheredIsSent : Type 0 → Type 0
GatheredIsSent A =
    (server : Store) (entries : List (Entry A)) (fates : Fates) (known : List Id) → IsClosed server
    → All (Describes server) entries → IsGathered (IsHeld server) entries fates → AreKnown entries fates known
    → IsSent server (sent_from server fates) known
