use Rattle.gitrepository.proofs.LawLemmas.{kept_complete}
use Rattle.gitrepository.proofs.laws.kept_is_complete.Goals as goal

pub returns : goal.returns
returns g c = kept_complete
