use Rattle.gitrepository.proofs.LawLemmas.{packs_keep}
use Rattle.gitrepository.proofs.laws.packs_keep_closed.Goals as goal

pub returns : goal.returns
returns c = packs_keep
