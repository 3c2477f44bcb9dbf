use Rattle.std.proofs.Common.{◌≤◌, length}
use Rattle.gwalk.specs.steps.Passes.{IsCounted, IsPassed}
use Rattle.gwalk.proofs.ordered.down.pass_down.Given as goal

abbrev pub invariant-loop-pass : goal.invariant-loop-pass
invariant-loop-pass g l = record {
  counted : IsCounted l.pass.wanted.items l.pass.known.items l.pass.next l.pass.pending;
  passed : IsPassed l.graph.entries l.wants l.commons l.pass.wanted.items l.pass.known.items l.pass.next;
  fits : length l.pass.wanted.items ≤ length l.graph.entries;
}

abbrev pub decreases-loop-pass : goal.decreases-loop-pass
decreases-loop-pass g l = l.pass.next
