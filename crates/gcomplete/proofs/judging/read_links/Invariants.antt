use Rattle.gcomplete.specs.Batches.{KeepsTypes}
use Rattle.gcomplete.proofs.judging.read_links.Given as goal

abbrev pub invariant-loop-place : goal.invariant-loop-place
invariant-loop-place g l = KeepsTypes l.fn.batch.types l.batch.types
