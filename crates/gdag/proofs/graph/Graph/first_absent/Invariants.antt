use Rattle.std.proofs.Common.{take, All}
use Rattle.gdag.specs.Graphs.{Holds}
use Rattle.gdag.proofs.graph.Graph.first_absent.Given as goal

abbrev pub invariant-loop-id : goal.invariant-loop-id
invariant-loop-id g l = All (Holds l.self.entries) (take l.id-index l.ids)
