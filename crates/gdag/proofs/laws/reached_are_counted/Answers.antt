use Rattle.gdag.proofs.Counting.{reached_are_counted}
use Rattle.gdag.proofs.laws.reached_are_counted.Goals as goal

pub returns : goal.returns
returns g c = λ h tips ids held parents counts distinct each. reached_are_counted h tips ids held parents counts distinct each
