use Rattle.gsession.proofs.CallLemmas.{does, goes_on}
use Rattle.gsession.proofs.laws.calls_go_on.Goals as goal

pub returns : goal.returns
returns g c = λ r old new called. goes_on r.graph.entries old new
    (does g.K.KeepingIndexer.indexes g.K.KeepingIndexer.index_fails r old new called)
