use Rattle.std.proofs.Common.{take, All}
use Rattle.gcomplete.specs.steps.Checking.{IsFreeAt}
use Rattle.gcomplete.proofs.checking.check_types.Given as goal

abbrev pub invariant-loop-place : goal.invariant-loop-place
invariant-loop-place g l = All (IsFreeAt l.store) (take l.place l.batch)
