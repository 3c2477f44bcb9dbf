use Rattle.gdag.proofs.Growing.{keeps_connected}
use Rattle.gdag.proofs.Sharing.{reached_already}
use Rattle.gdag.proofs.laws.connected_stays_connected.Goals as goal

pub returns : goal.returns
returns g c = λ h k a keeps connected. (keeps_connected h k keeps a connected, λ b way. reached_already h k a b keeps connected way)
