use Rattle.std.proofs.Common.{length}
use Rattle.ggraph.proofs.LoadLemmas.{Progress}
use Rattle.ggraph.proofs.text.loading.load.Given as goal

abbrev pub invariant-loop-pair : goal.invariant-loop-pair
invariant-loop-pair g l = Progress l.fn.order l.text l.rest l.reading l.number

abbrev pub decreases-loop-pair : goal.decreases-loop-pair
decreases-loop-pair g l = length l.rest
