use Rattle.std.proofs.Common.{take, All}
use Rattle.gdag.specs.Graphs.{Holds}
use Rattle.gitrepository.proofs.ref_tips.add_refs.Given as goal

abbrev pub invariant-loop-place : goal.invariant-loop-place
invariant-loop-place g l = All (λ ref. Holds l.graph.entries ref.1) (take l.place l.refs)
