use Rattle.gwalk.proofs.TagChains.{IsMarkingChain}
use Rattle.gwalk.proofs.ordered.tags.mark_chain.Given as goal

abbrev pub invariant-loop-next : goal.invariant-loop-next
invariant-loop-next g l = IsMarkingChain l.graph.entries l.start l.at l.initial.tagged.items l.tagged.items

abbrev pub decreases-loop-next : goal.decreases-loop-next
decreases-loop-next g l = l.at
