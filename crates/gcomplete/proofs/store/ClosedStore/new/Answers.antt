use Rattle.gcomplete.proofs.Closing.{emptied_judged}
use Rattle.gcomplete.proofs.store.ClosedStore.new.Goals as goal

pub invariant_of-result : goal.invariant_of-result
invariant_of-result g c = emptied_judged c.new.result c.new.ensures
