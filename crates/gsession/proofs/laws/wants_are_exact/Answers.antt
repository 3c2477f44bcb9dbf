use Rattle.gsession.proofs.LawLemmas.{wants_are_exact}
use Rattle.gsession.proofs.laws.wants_are_exact.Goals as goal

pub returns : goal.returns
returns g c = wants_are_exact c.distinct_are_once.ensures
