use Rattle.gsession.proofs.CallLemmas.{does}
use Rattle.gsession.proofs.laws.calls_do.Goals as goal

pub returns : goal.returns
returns g c = does g.K.KeepingIndexer.indexes g.K.KeepingIndexer.index_fails
