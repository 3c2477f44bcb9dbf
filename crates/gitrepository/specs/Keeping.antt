-- The ids that an indexer of received packs keeps.
use Rattle.std.specs.Prelude.{IsSomeAnd, Option}
use Rattle.gname.specs.Ids.{Id}
use Rattle.gobject.specs.declared.node.Entry.{Entry}
use Rattle.gitrepository.specs.Received.{IsInReceived}
use Rattle.gitpack.specs.declared.spool.Spool.{Ghosts}
use Rattle.gitrepository.specs.declared.feed.Received.{Received}

-- an object of the received pack or a prerequisite has the id
abbrev pub IsKeptBy : {S A : Type 0} {G : Ghosts S} → Option (Received S A G) → Id → Type 0
IsKeptBy received id = IsSomeAnd received (λ it. IsInReceived it.prerequisites.items it.index.entries id)

-- the same for the id of an entry of a graph
abbrev pub IsEntryKeptBy : {S A B : Type 0} {G : Ghosts S} → Option (Received S A G) → Entry B → Type 0
IsEntryKeptBy received entry = IsKeptBy received entry.id
