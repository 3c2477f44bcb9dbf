use Rattle.gcomplete.proofs.Closing.{closed_complete}
use Rattle.gcomplete.proofs.store.ClosedStore.laws.Goals as goal

pub returns-clause-complete : goal.returns-clause-complete
returns-clause-complete g c objects are a held = closed_complete objects are.closed a held
