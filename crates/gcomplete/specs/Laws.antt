-- Laws that follow from the definitions of stores. A collision is two different texts with the same SHA-1.
use Rattle.std.specs.Prelude.{◌≡◌, ◌⊎◌, List, All, Some}
use Rattle.gname.specs.Ids.{Id}
use Rattle.gcomplete.specs.Stores.{GitObject, Holds, Store, Types}
use Rattle.gcomplete.specs.Closed.{IsClosed, IsComplete, Reaches}
use Rattle.gcomplete.specs.Naming.{Collide, IsCollision, IsNamed, text_of}
use Rattle.gcomplete.specs.Batches.{AreJudged, IsBatchOf, Noted}
use Rattle.gcomplete.specs.Adding.{IsAddFault, IsFit}
use Rattle.gcomplete.specs.Linked.{AreLinkedTo, HasClosed}
use Rattle.gcomplete.specs.Sending.{IsPartOf, IsSent}
use Rattle.gcomplete.specs.declared.fault.BatchFault.{BatchFault}
use Rattle.gcomplete.specs.declared.fault.BatchFault.TheVariants.{Memory}

-- each id that a closed store holds is complete
abbrev pub ClosedIsComplete : Type 0
ClosedIsComplete = (s : Store) → IsClosed s → (a : Id) → Holds s a → IsComplete s a

-- two stores have the same object with an id that both hold, or the texts of the two objects are a collision
abbrev pub NamesAreShared : Type 0
NamesAreShared =
    (s t : Store) → IsNamed s → IsNamed t → (a : Id) (o p : GitObject) → s a ≡ Some o → t a ≡ Some p
    → (o ≡ p) ⊎ IsCollision (text_of o) (text_of p)

-- If an id is complete in one store, this store has everything that the id reaches in another store, with the same
-- bytes, or the two stores collide.
abbrev pub CompleteIsTheSame : Type 0
CompleteIsTheSame =
    (s t : Store) → IsNamed s → IsNamed t → (a : Id) → IsComplete s a
    → (b : Id) (o : GitObject) → Reaches t a b → t b ≡ Some o → (s b ≡ Some o) ⊎ Collide s t

-- The objects of a closed store are read again from another store. In the other store each object has its own id, and
-- no object of the closed store is missing. Then each of these ids is complete in the other store, or the two collide.
abbrev pub ReadIsComplete : Type 0
ReadIsComplete =
    (types : Types) (judged read : Store) → AreJudged types judged → IsNamed read
    → ((a : Id) → Holds judged a → Holds read a)
    → ((a : Id) → Holds judged a → IsComplete read a) ⊎ Collide judged read

-- The links of the objects with these ids and types lead to these objects, or to objects of a closed store. Then the
-- store stays closed if the objects are added, or the objects and the store collide.
abbrev pub LinkedIsClosed : Type 0
LinkedIsClosed = (types : Types) (s : Store) → IsNamed s → IsClosed s → AreLinkedTo types s → HasClosed types s

-- adding an object of a server to a batch of the server's objects fails only if out of memory
abbrev pub SentIsNoted : Type 0
SentIsNoted =
    (server objects : Store) (noted : Noted) (a : Id) (o : GitObject) (fault : BatchFault)
    → IsClosed server → IsBatchOf noted objects → IsPartOf objects server → server a ≡ Some o
    → IsAddFault noted a o fault → fault ≡ Memory

-- A client's store is closed and holds the known ids. Then a batch of the objects that a server sends can be added to
-- the store, or the two stores collide.
abbrev pub SentIsFit : Type 0
SentIsFit =
    (types : Types) (client server pack : Store) (batch : Noted) (known : List Id) → AreJudged types client
    → IsNamed server → IsClosed server → All (Holds client) known → IsBatchOf batch pack → IsSent server pack known
    → IsFit types batch ⊎ Collide client server
