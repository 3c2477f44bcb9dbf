use Rattle.std.proofs.Common.{◌≡◌, take}
use Rattle.gwalk.specs.steps.Common.{ids_at}
use Rattle.gwalk.proofs.common.ids_at.Given as goal

abbrev pub invariant-loop-position : goal.invariant-loop-position
invariant-loop-position g l = l.ids.items ≡ ids_at l.graph.entries (take l.position-index l.positions)
