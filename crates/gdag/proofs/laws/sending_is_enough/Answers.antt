use Rattle.gdag.proofs.Sharing.{sending_is_enough}
use Rattle.gdag.proofs.laws.sending_is_enough.Goals as goal

pub returns : goal.returns
returns g c = λ s k list new wants commons tips format differ closed agree held connected sent inserts. sending_is_enough s k list new wants commons tips format differ closed agree held connected sent inserts
