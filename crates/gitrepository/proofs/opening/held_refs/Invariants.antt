use Rattle.gitrepository.specs.Repositories.{AreHeld}
use Rattle.gitrepository.proofs.opening.held_refs.Given as goal

abbrev pub invariant-loop-pair : goal.invariant-loop-pair
invariant-loop-pair g l = AreHeld l.graph l.refs
