use Rattle.gsession.proofs.BoundLemmas.{began_stays_on}
use Rattle.gsession.proofs.laws.began_stays_on.Goals as goal

pub returns : goal.returns
returns g c = began_stays_on c.began_stays.ensures g.K.KeepingIndexer.indexes g.K.KeepingIndexer.index_fails
