use Rattle.grefs.proofs.SpecLemmas.{one_reading}
use Rattle.grefs.proofs.refspec.laws.one_reading.Goals as goal

pub returns : goal.returns
returns c = one_reading c.names_are_clean.ensures
