use Rattle.std.proofs.Common.{All, take}
use Rattle.std.specs.Map.{values_of}
use Rattle.gdag.specs.Reach.{IsConnected}
use Rattle.gclientrepo.proofs.opening.first_absent.Given as goal

abbrev pub invariant-loop-place : goal.invariant-loop-place
invariant-loop-place g l = All (IsConnected l.graph.entries) (take l.place (values_of l.refs))
