use Rattle.gitrepository.proofs.TreeLawLemmas.{read_complete}
use Rattle.gitrepository.proofs.laws.read_is_complete.Goals as goal

pub returns : goal.returns
returns g c = read_complete
