use Rattle.gsession.proofs.BoundLemmas.{begins_counted, counted_stays}
use Rattle.gsession.proofs.laws.requests_are_counted.Goals as goal

pub returns-clause-begins : goal.returns-clause-begins
returns-clause-begins g c = begins_counted

pub returns-clause-stays : goal.returns-clause-stays
returns-clause-stays g c =
    counted_stays c.offers_are_exact.ensures g.K.KeepingIndexer.indexes g.K.KeepingIndexer.index_fails
