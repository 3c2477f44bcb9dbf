use Rattle.gsession.proofs.NextLaws.{offers_are_new}
use Rattle.gsession.proofs.laws.offers_are_new.Goals as goal

pub returns : goal.returns
returns g c = offers_are_new c.offers_are_exact.ensures
