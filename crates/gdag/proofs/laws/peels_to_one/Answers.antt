use Rattle.gdag.proofs.Sharing.{peels_to_one}
use Rattle.gdag.proofs.laws.peels_to_one.Goals as goal

pub returns : goal.returns
returns g c = λ h a b d first other. peels_to_one h a b d first other
