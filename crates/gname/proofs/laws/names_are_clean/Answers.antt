use Rattle.gname.proofs.NameLemmas.{names_are_clean}
use Rattle.gname.proofs.laws.names_are_clean.Goals as goal

pub returns : goal.returns
returns c = names_are_clean
