use Rattle.gscenario.proofs.LineLemmas.{one_place}
use Rattle.gscenario.proofs.laws.wrong_lines_have_one_place.Goals as goal

pub returns : goal.returns
returns g c = one_place
