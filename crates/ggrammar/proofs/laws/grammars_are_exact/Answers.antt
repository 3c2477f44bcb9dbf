use Rattle.ggrammar.proofs.GrammarLemmas.{laws_of_grammars}
use Rattle.ggrammar.proofs.laws.grammars_are_exact.Goals as goal

pub returns : goal.returns
returns c = laws_of_grammars
