use Rattle.std.proofs.Common.{length}
use Rattle.gscenario.proofs.LineLemmas.{ReadsLines}
use Rattle.gscenario.proofs.scenario.Scenario.read.Given as goal

abbrev pub invariant-loop-pair : goal.invariant-loop-pair
invariant-loop-pair g l = ReadsLines l.text l.rest l.events.items l.number

abbrev pub decreases-loop-pair : goal.decreases-loop-pair
decreases-loop-pair g l = length l.rest
