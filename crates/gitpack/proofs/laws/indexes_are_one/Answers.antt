use Rattle.gitpack.proofs.RowLemmas.{indexes_once}
use Rattle.gitpack.proofs.laws.indexes_are_one.Goals as goal

pub returns : goal.returns
returns c = indexes_once
