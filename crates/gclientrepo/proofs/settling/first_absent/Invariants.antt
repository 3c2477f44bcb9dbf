use Rattle.std.proofs.Common.{All, take}
use Rattle.gdag.specs.Graphs.{Holds}
use Rattle.gclientrepo.proofs.settling.first_absent.Given as goal

abbrev pub invariant-loop-place : goal.invariant-loop-place
invariant-loop-place g l = All (λ ask. Holds l.graph.entries ask.id) (take l.place l.asks)
