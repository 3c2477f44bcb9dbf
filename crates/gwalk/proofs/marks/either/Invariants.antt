use Rattle.std.proofs.Common.{◌||◌}
use Rattle.gwalk.proofs.Marking.{AreJoined}
use Rattle.gwalk.proofs.marks.either.Given as goal

abbrev pub invariant-loop-position : goal.invariant-loop-position
invariant-loop-position g l = AreJoined ◌||◌ l.fn.reached.items l.old l.marks.items l.position
