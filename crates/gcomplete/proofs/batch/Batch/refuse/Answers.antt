use Rattle.gcomplete.proofs.Batching.{emptied}
use Rattle.gcomplete.proofs.batch.Batch.refuse.Goals as goal

pub invariant_of-self : goal.invariant_of-self
invariant_of-self g c = emptied c.clear.new.self c.clear-2.new.self c.clear.ensures c.clear-2.ensures
