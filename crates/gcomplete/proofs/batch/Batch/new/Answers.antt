use Rattle.gcomplete.proofs.Batching.{emptied}
use Rattle.gcomplete.proofs.batch.Batch.new.Goals as goal

pub invariant_of-result : goal.invariant_of-result
invariant_of-result g c = emptied c.new.result c.new-2.result c.new.ensures c.new-2.ensures
