use Rattle.gwalk.proofs.Rising.{IsRising}
use Rattle.gwalk.proofs.ordered.up.marks_reaching.Given as goal

abbrev pub invariant-loop-position : goal.invariant-loop-position
invariant-loop-position g l = IsRising l.graph.entries l.goals l.end l.position l.good.items
