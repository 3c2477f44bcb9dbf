use Rattle.gsession.proofs.BoundLemmas.{begins_offered, offered_stays}
use Rattle.gsession.proofs.laws.names_were_offered.Goals as goal

pub returns-clause-begins : goal.returns-clause-begins
returns-clause-begins g c = begins_offered

pub returns-clause-stays : goal.returns-clause-stays
returns-clause-stays g c =
    offered_stays c.distinct_are_once.ensures g.K.KeepingIndexer.indexes g.K.KeepingIndexer.index_fails
