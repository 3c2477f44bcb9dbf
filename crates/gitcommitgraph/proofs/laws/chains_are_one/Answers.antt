use Rattle.gitcommitgraph.proofs.LineLemmas.{chains_are_one}
use Rattle.gitcommitgraph.proofs.laws.chains_are_one.Goals as goal

pub returns : goal.returns
returns c one other text first second = chains_are_one one other text first second
