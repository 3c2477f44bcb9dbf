use Rattle.gname.proofs.IdLemmas.{ids_have_texts}
use Rattle.gname.proofs.laws.ids_have_texts.Goals as goal

pub returns : goal.returns
returns c = ids_have_texts
