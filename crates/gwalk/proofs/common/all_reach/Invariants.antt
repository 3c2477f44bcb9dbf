use Rattle.std.proofs.Common.{take, All}
use Rattle.std.specs.List.{Any}
use Rattle.gdag.specs.Reach.{Reaches}
use Rattle.gwalk.proofs.common.all_reach.Given as goal

abbrev pub invariant-loop-id : goal.invariant-loop-id
invariant-loop-id g l = All (λ id. Any (Reaches l.graph.entries id) l.fn.goals) (take l.id-index l.ids)
