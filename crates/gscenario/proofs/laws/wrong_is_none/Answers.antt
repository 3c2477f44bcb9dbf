use Rattle.gscenario.proofs.LineLemmas.{wrong_is_none}
use Rattle.gscenario.proofs.laws.wrong_is_none.Goals as goal

pub returns : goal.returns
returns g c = wrong_is_none
