use Rattle.std.proofs.Common.{take, All}
use Rattle.gdag.specs.Graphs.{Holds}
use Rattle.ganswer.specs.Servers.{parents_in}
use Rattle.ganswer.proofs.server.first_missing_parent.Given as goal

abbrev pub invariant-loop-place : goal.invariant-loop-place
invariant-loop-place g l = All (Holds l.graph.entries) (parents_in (take l.place l.graph.entries))
