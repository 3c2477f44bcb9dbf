use Rattle.gitwords.proofs.ServedLemmas.{paths_have_one_reading}
use Rattle.gitwords.proofs.laws.paths_have_one_reading.Goals as goal

pub returns : goal.returns
returns c = paths_have_one_reading
