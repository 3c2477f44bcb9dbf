use Rattle.gcomplete.proofs.Names.{complete_same}
use Rattle.gcomplete.proofs.laws.complete_is_the_same.Goals as goal

pub returns : goal.returns
returns c = complete_same
