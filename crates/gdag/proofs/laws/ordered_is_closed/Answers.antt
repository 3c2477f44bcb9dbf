use Rattle.gdag.proofs.Ordering.{ordered_is_closed}
use Rattle.gdag.proofs.laws.ordered_is_closed.Goals as goal

pub returns : goal.returns
returns g c = λ h differ ordered. ordered_is_closed h differ ordered
