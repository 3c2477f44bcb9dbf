use Rattle.gsession.proofs.NextLaws.{one_next}
use Rattle.gsession.proofs.laws.one_next.Goals as goal

pub returns : goal.returns
returns g c = one_next c.offers_are_exact.ensures
