use Rattle.std.proofs.Common.{ℕ, List, ◌-◌, length}
use Rattle.gwalk.proofs.Looking.{IsLooking}
use Rattle.gwalk.proofs.common.Goals.reached_by.Given as goal

abbrev pub invariant-loop-at : goal.invariant-loop-at
invariant-loop-at g l =
    (front : List (List ℕ)) × (back : List (List ℕ)) × IsLooking l.graph.entries l.start l.self.marks.items l.self.absent.items front back l.walk.marks.items l.walk.met.items l.walk.missing l.walk.parent_count l.at

abbrev pub decreases-loop-at : goal.decreases-loop-at
decreases-loop-at g l = length l.graph.entries - l.at
