use Rattle.std.proofs.Common.{take, All}
use Rattle.std.specs.List.{Any}
use Rattle.gdag.specs.Reach.{Reaches}
use Rattle.gwalk.proofs.ordered.up.ready.Given as goal

abbrev pub invariant-loop-want : goal.invariant-loop-want
invariant-loop-want g l = All (λ want. Any (Reaches l.graph.entries want) l.commons) (take l.want-index l.wants)
