use Rattle.gdag.proofs.Reaching.{connected_in_closed}
use Rattle.gdag.proofs.Sharing.{closed_from_connected}
use Rattle.gdag.proofs.laws.closed_is_connected.Goals as goal

pub returns : goal.returns
returns g c = λ h. (connected_in_closed h, closed_from_connected h)
