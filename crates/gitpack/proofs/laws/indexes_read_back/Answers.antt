use Rattle.gitpack.proofs.RowLemmas.{reads_back}
use Rattle.gitpack.proofs.laws.indexes_read_back.Goals as goal

pub returns : goal.returns
returns c = reads_back
