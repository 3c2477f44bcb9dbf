use Rattle.gpkt.proofs.Fronts.{every_front_lem}
use Rattle.gpkt.proofs.laws.every_front.Goals as goal

pub returns : goal.returns
returns c = every_front_lem
