use Rattle.gdag.proofs.Positions.{positions_are_nodes}
use Rattle.gdag.proofs.laws.positions_are_nodes.Goals as goal

pub returns : goal.returns
returns g c = positions_are_nodes _
