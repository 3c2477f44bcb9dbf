use Rattle.gitcommitgraph.proofs.ExactLemmas.{texts_are_one}
use Rattle.gitcommitgraph.proofs.laws.files_are_one.Goals as goal

pub returns : goal.returns
returns c one other text first second fits = texts_are_one one other text first second fits
