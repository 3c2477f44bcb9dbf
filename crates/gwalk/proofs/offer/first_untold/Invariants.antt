use Rattle.std.proofs.Common.{◌≡◌, ◌≤◌, ℕ, List, [], ◌-◌, length, filter}
use Rattle.gdag.specs.Levels.{AreLevels}
use Rattle.gwalk.specs.Offers.{AreReached, IsUnderway}
use Rattle.gwalk.specs.steps.Offers.{HasMarks}
use Rattle.gwalk.proofs.Offering.{is_untold}
use Rattle.gwalk.proofs.offer.first_untold.Given as goal

abbrev pub invariant-loop-at : goal.invariant-loop-at
invariant-loop-at g l =
    (length l.list.items ≤ l.n) × ((tips front0 back0 : List (List ℕ)) →
    IsUnderway l.graph.entries tips front0 back0 l.fn.tour.walk.marks.items l.fn.tour.walk.met.items l.fn.tour.walk.missing l.fn.tour.walk.parent_count l.fn.tour.at →
    (front : List (List ℕ)) × (back : List (List ℕ)) × IsUnderway l.graph.entries tips front back l.tour.walk.marks.items l.tour.walk.met.items l.tour.walk.missing l.tour.walk.parent_count l.at ×
    ((commons reached others : List (List ℕ)) → AreLevels l.graph.entries commons reached → AreReached l.graph.entries commons l.known → HasMarks l.graph.entries others l.sent →
    [] ≡ filter (is_untold l.graph.entries reached others) front0 → l.list.items ≡ filter (is_untold l.graph.entries reached others) front))

abbrev pub decreases-loop-at : goal.decreases-loop-at
decreases-loop-at g l = length l.graph.entries - l.at
