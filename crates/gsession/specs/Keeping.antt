-- The objects that an indexer with a store keeps.
use Rattle.std.specs.Prelude.{◌⊎◌, List}
use Rattle.gname.specs.Ids.{Id}
use Rattle.gobject.specs.declared.node.Entry.{Entry}
use Rattle.gdag.specs.Graphs.{Holds}

-- each id that the graph holds is kept
abbrev pub KeepsGraph : {A : Type 0} → (Id → Type 0) → List (Entry A) → Type 0
KeepsGraph keeps g = (id : Id) → Holds g id → keeps id

-- The indexer still keeps all that it kept before, and it keeps each id that the graph gained. So if it kept each id of
-- the old graph, it keeps each id of the new graph.
pub record KeepsOn {A : Type 0} (before after : Id → Type 0) (old new : List (Entry A)) : Type 0 where
  pub stays : (id : Id) → before id → after id
  pub gained : (id : Id) → Holds new id → Holds old id ⊎ after id
