use Rattle.gsession.proofs.BoundLemmas.{commons_are_haves, replies_add}
use Rattle.gsession.proofs.laws.commons_are_haves.Goals as goal

pub returns-clause-replies : goal.returns-clause-replies
returns-clause-replies g c =
    replies_add c.distinct_are_once.ensures g.K.KeepingIndexer.indexes g.K.KeepingIndexer.index_fails

pub returns-clause-calls : goal.returns-clause-calls
returns-clause-calls g c =
    commons_are_haves c.distinct_are_once.ensures g.K.KeepingIndexer.indexes g.K.KeepingIndexer.index_fails
