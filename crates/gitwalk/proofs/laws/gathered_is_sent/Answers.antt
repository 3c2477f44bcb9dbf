use Rattle.gitwalk.proofs.SentLemmas.{gathered_sent}
use Rattle.gitwalk.proofs.laws.gathered_is_sent.Goals as goal

pub returns : goal.returns
returns g c = gathered_sent g.row.A.Denot
