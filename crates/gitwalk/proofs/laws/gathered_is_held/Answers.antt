use Rattle.gitwalk.proofs.HeldLemmas.{gathered_held}
use Rattle.gitwalk.proofs.laws.gathered_is_held.Goals as goal

pub returns : goal.returns
returns g c = gathered_held g.row.A.Denot
