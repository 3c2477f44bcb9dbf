use Rattle.std.proofs.Common.{take}
use Rattle.gclientrepo.specs.steps.Settling.{HasSettled}
use Rattle.gclientrepo.proofs.settling.take_asks.Given as goal

abbrev pub invariant-loop-place : goal.invariant-loop-place
invariant-loop-place g l = HasSettled l.graph.entries l.old (take l.place l.asks) l.updates.items l.refs
