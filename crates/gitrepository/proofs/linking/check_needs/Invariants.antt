use Rattle.std.proofs.Common.{take, All}
use Rattle.gitrepository.specs.steps.Arriving.{LeadsFrom}
use Rattle.gitrepository.proofs.linking.check_needs.Given as goal

abbrev pub invariant-loop-place : goal.invariant-loop-place
invariant-loop-place g l =
    All (LeadsFrom l.prerequisites.items l.pack) (take l.place l.needs) × All g.S.TypeStore.has l.prerequisites.items
