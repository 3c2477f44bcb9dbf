use Rattle.std.proofs.Common.{◌<◌, length}
use Rattle.gwalk.specs.steps.Passes.{IsLedTo}
use Rattle.gwalk.proofs.ordered.tags.peel_position.Given as goal

abbrev pub invariant-loop-next : goal.invariant-loop-next
invariant-loop-next g l = record {
  led : IsLedTo l.graph.entries l.start l.at;
  inside : l.at < length l.graph.entries;
}

abbrev pub decreases-loop-next : goal.decreases-loop-next
decreases-loop-next g l = l.at
