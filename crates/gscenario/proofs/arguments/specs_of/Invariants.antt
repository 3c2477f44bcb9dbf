use Rattle.std.proofs.Common.{length}
use Rattle.grefs.specs.Refspecs.{IsSpec}
use Rattle.gscenario.specs.steps.Reading.{words_after}
use Rattle.gscenario.proofs.ArgumentLemmas.{ReadsEach}
use Rattle.gscenario.proofs.arguments.specs_of.Given as goal

abbrev pub invariant-loop-next : goal.invariant-loop-next
invariant-loop-next g l = ReadsEach IsSpec (words_after l.tail) (words_after l.rest) l.specs.items

abbrev pub decreases-loop-next : goal.decreases-loop-next
decreases-loop-next g l = length (words_after l.rest)
