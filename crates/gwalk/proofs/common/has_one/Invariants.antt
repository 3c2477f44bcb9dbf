use Rattle.std.proofs.Common.{take, All, Contains}
use Rattle.gwalk.proofs.common.has_one.Given as goal

abbrev pub invariant-loop-id : goal.invariant-loop-id
invariant-loop-id l = All (λ id. ¬ (Contains l.list id)) (take l.id-index l.ids)
