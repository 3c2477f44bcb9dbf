use Rattle.gwalk.proofs.Staying.{stay_connected}
use Rattle.gwalk.proofs.laws.marks_stay_connected.Goals as goal

pub returns : goal.returns
returns g c = stay_connected c.growing_keeps.ensures c.connected_stays_connected.ensures
