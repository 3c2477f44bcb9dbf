use Rattle.gwalk.proofs.Passing as passing
use Rattle.gwalk.proofs.laws.stops_at_marks.Goals as goal

pub returns : goal.returns
returns g c = passing.stops_at_marks _
