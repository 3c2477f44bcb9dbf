use Rattle.std.proofs.Common.{length}
use Rattle.gcmd.proofs.LinesLemmas.{IsPutting}
use Rattle.gcmd.proofs.lines.put_digits.Given as goal

abbrev pub invariant-loop-rest : goal.invariant-loop-rest
invariant-loop-rest g l = IsPutting g.W.Sink l.initial.output l.output l.bytes l.rest

abbrev pub decreases-loop-rest : goal.decreases-loop-rest
decreases-loop-rest g l = length l.rest
