use Rattle.std.proofs.Common.{take, All}
use Rattle.gdag.specs.Graphs.{Holds}
use Rattle.ganswer.specs.LsAnswers.{KnowsPeels}
use Rattle.ganswer.proofs.server.check_refs.Given as goal

abbrev pub invariant-loop-place : goal.invariant-loop-place
invariant-loop-place g l = All (λ ref. Holds l.graph.entries ref.1) (take l.place l.refs) × KnowsPeels l.graph.entries l.refs l.peels.items
