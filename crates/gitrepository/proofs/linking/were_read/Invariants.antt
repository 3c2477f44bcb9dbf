use Rattle.std.proofs.Common.{take, All}
use Rattle.gcomplete.specs.Stores.{Types}
use Rattle.gitrepository.specs.steps.Arriving.{AreReadObjects, IsInIndex, IsReadEntry}
use Rattle.gitrepository.proofs.linking.were_read.Given as goal

abbrev pub invariant-loop-place : goal.invariant-loop-place
invariant-loop-place l =
    ((needs : Types) → AreReadObjects needs l.objects → All (IsReadEntry needs) (take l.place l.pack))
    × All (IsInIndex l.pack) (take l.place l.objects)
