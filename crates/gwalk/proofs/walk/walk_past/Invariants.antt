use Rattle.std.proofs.Common.{ℕ, List, ◌-◌, length}
use Rattle.gwalk.specs.Marks.{stop_at}
use Rattle.gwalk.specs.Offers.{IsUnderway}
use Rattle.gwalk.proofs.walk.walk_past.Given as goal

abbrev pub invariant-loop-at : goal.invariant-loop-at
invariant-loop-at g l =
    (front : List (List ℕ)) × (back : List (List ℕ)) × IsUnderway (stop_at l.known l.graph.entries) l.starts front back l.walk.marks.items l.walk.met.items l.walk.missing l.walk.parent_count l.at

abbrev pub decreases-loop-at : goal.decreases-loop-at
decreases-loop-at g l = length l.graph.entries - l.at
