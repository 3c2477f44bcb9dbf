use Rattle.gsession.proofs.NextLaws.{haves_are_connected, haves_are_new}
use Rattle.gsession.proofs.laws.haves_are_held.Goals as goal

pub returns-clause-connected : goal.returns-clause-connected
returns-clause-connected g c = haves_are_connected c.offers_are_exact.ensures c.reaching_goes_on.ensures

pub returns-clause-fresh : goal.returns-clause-fresh
returns-clause-fresh g c = haves_are_new c.offers_are_exact.ensures
