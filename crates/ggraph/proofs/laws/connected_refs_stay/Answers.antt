use Rattle.ggraph.proofs.ConnectedRefsLemmas.{connected_refs_stay}
use Rattle.ggraph.proofs.laws.connected_refs_stay.Goals as goal

pub returns : goal.returns
returns g c = connected_refs_stay c.connected_stays_connected.ensures
