use Rattle.std.proofs.Common.{take, All}
use Rattle.gcomplete.specs.steps.Checking.{LeadsAt}
use Rattle.gcomplete.proofs.checking.check_needs.Given as goal

abbrev pub invariant-loop-place : goal.invariant-loop-place
invariant-loop-place g l = All (LeadsAt l.store l.batch) (take l.place l.needs)
