use Rattle.std.proofs.Common.{take}
use Rattle.gcomplete.specs.Judging.{AreKept}
use Rattle.gcomplete.proofs.judging.read_tips.Given as goal

abbrev pub invariant-loop-id : goal.invariant-loop-id
invariant-loop-id g l = AreKept l.batch.types (take l.id-index l.tips)
