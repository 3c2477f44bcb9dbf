use Rattle.gclientrepo.proofs.RepoLemmas.{connected_repo_stays}
use Rattle.gclientrepo.proofs.laws.connected_repo_stays.Goals as goal

pub returns : goal.returns
returns g c = connected_repo_stays c.growing_keeps.ensures c.connected_refs_stay.ensures c.marks_stay_connected.ensures c.covering_stays.ensures
