use Rattle.std.proofs.Common.{take}
use Rattle.gitrepository.specs.Checking.{AreRefsKept}
use Rattle.gitrepository.proofs.checking.read_refs.Given as goal

abbrev pub invariant-loop-pair : goal.invariant-loop-pair
invariant-loop-pair g l = AreRefsKept l.batch.types (take l.pair-index l.refs)
