use Rattle.gsession.proofs.NextLaws.{began_stays}
use Rattle.gsession.proofs.laws.began_stays.Goals as goal

pub returns : goal.returns
returns g c = began_stays c.offers_are_exact.ensures c.growing_keeps.ensures c.connected_stays_connected.ensures
