use Rattle.std.proofs.Common.{[]}
use Rattle.gwalk.proofs.common.met_of.Goals as goal

pub meet_all-requires-clause-has : goal.meet_all-requires-clause-has
meet_all-requires-clause-has g c = ([], c.in_ok-walk.ensures.met [])

pub returns : goal.returns
returns g c = c.in_ok-meet_all.ensures [] (c.in_ok-walk.ensures.met [])
