use Rattle.std.proofs.Common.{length}
use Rattle.gitpack.proofs.DeltaLemmas.{Follows}
use Rattle.gitpack.proofs.delta.follow.Given as goal

abbrev pub invariant-loop-rest : goal.invariant-loop-rest
invariant-loop-rest g l = Follows l.base l.commands l.rest l.body.items l.size

abbrev pub decreases-loop-rest : goal.decreases-loop-rest
decreases-loop-rest g l = length l.rest
