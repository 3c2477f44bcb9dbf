use Rattle.gitrepository.specs.Repositories.{AreHeld}
use Rattle.gitrepository.proofs.newest.lead_with_newest.Given as goal

abbrev pub invariant-loop-pair : goal.invariant-loop-pair
invariant-loop-pair g l = AreHeld l.graph l.leading
