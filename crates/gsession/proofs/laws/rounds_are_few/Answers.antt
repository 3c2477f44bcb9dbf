use Rattle.gsession.proofs.BoundLemmas.{rounds_are_few}
use Rattle.gsession.proofs.laws.rounds_are_few.Goals as goal

pub returns : goal.returns
returns g c = rounds_are_few c.reached_are_counted.ensures
