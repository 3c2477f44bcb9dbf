use Rattle.std.proofs.Common.{◌-◌, ◌<◌, ◌≤◌, All, length, take}
use Rattle.gdag.specs.Reach.{IsConnected}
use Rattle.gclientrepo.proofs.opening.first_lost.Given as goal

abbrev pub invariant-loop-connected : goal.invariant-loop-connected
invariant-loop-connected g l = record {
  below : l.connected < l.end;
  inside : l.end ≤ length l.ids;
  held : All (IsConnected l.graph.entries) (take l.connected l.ids);
  lost : ¬ (All (IsConnected l.graph.entries) (take l.end l.ids));
}

abbrev pub decreases-loop-connected : goal.decreases-loop-connected
decreases-loop-connected g l = l.end - l.connected
