use Rattle.gdag.proofs.Sharing.{closed_stays}
use Rattle.gdag.proofs.laws.closed_stays.Goals as goal

pub returns : goal.returns
returns g c = λ format h entry k closed held comes. closed_stays format h entry k closed held comes
