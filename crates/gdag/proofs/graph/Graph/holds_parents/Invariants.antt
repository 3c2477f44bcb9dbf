use Rattle.std.proofs.Common.{take, All}
use Rattle.gdag.specs.Graphs.{HoldsParents}
use Rattle.gdag.proofs.graph.Graph.holds_parents.Given as goal

abbrev pub invariant-loop-position : goal.invariant-loop-position
invariant-loop-position g l = All (HoldsParents l.self.entries) (take l.position l.self.entries)
