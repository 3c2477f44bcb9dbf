use Rattle.std.proofs.Common.{take, All}
use Rattle.gobject.specs.declared.node.Entry.{Entry}
use Rattle.gworld.proofs.parts.start.first_unkept.Given as goal

abbrev pub invariant-loop-place : goal.invariant-loop-place
invariant-loop-place g l =
    All (λ (e : Entry g.row.A.Denot). g.I.KeepingIndexer.keeps l.indexer e.id) (take l.place l.graph.entries)
