use Rattle.glockfile.proofs.StoringLemmas.{Holds-added}
use Rattle.glockfile.proofs.replace.replace_file.Goals as goal

pub returns-in-Ok-clause-holds : goal.returns-in-Ok-clause-holds
returns-in-Ok-clause-holds g c = λ held. Holds-added _ _ _ c.in-Ok.ensures.replaced
