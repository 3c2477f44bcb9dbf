use Rattle.gsession.proofs.NextLaws.{began_begins}
use Rattle.gsession.proofs.laws.began_begins.Goals as goal

pub returns : goal.returns
returns g c = began_begins c.distinct_are_once.ensures
