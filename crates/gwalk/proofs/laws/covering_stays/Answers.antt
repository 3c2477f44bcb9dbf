use Rattle.gwalk.proofs.Staying.{covering_stays}
use Rattle.gwalk.proofs.laws.covering_stays.Goals as goal

pub returns : goal.returns
returns g c = covering_stays c.growing_keeps.ensures c.connected_stays_connected.ensures
