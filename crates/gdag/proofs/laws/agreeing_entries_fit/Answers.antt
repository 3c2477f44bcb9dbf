use Rattle.gdag.proofs.Refusing.{agreeing_entries_fit}
use Rattle.gdag.proofs.laws.agreeing_entries_fit.Goals as goal

pub returns : goal.returns
returns g c = λ h k entries format fault graph agree are refused. agreeing_entries_fit h k entries format fault graph agree are refused
