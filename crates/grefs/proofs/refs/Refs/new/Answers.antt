use Rattle.grefs.proofs.RefLemmas.{refs_none}
use Rattle.grefs.proofs.refs.Refs.new.Goals as goal

pub invariant_of-result : goal.invariant_of-result
invariant_of-result g c = rw c.new.ensures.items refs_none
