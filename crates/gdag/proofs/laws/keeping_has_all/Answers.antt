use Rattle.gdag.proofs.Sharing.{has_all_still}
use Rattle.gdag.proofs.laws.keeping_has_all.Goals as goal

pub returns : goal.returns
returns g c = λ s t h wants closed keeps held has. has_all_still s t h wants closed keeps held has
