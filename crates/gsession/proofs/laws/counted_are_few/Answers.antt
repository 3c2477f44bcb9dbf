use Rattle.gsession.proofs.BoundLemmas.{counted_are_few}
use Rattle.gsession.proofs.laws.counted_are_few.Goals as goal

pub returns : goal.returns
returns g c = counted_are_few c.reached_are_counted.ensures
