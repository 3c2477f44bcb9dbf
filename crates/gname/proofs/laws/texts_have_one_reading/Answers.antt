use Rattle.gname.proofs.IdLemmas.{texts_have_one_reading}
use Rattle.gname.proofs.laws.texts_have_one_reading.Goals as goal

pub returns : goal.returns
returns c = texts_have_one_reading
