use Rattle.gfetch.proofs.KeptLemmas.{over_grows, over_keeps_refs}
use Rattle.gfetch.proofs.laws.fetching_only_grows.Goals as goal

pub returns-clause-grows : goal.returns-clause-grows
returns-clause-grows g c = λ start input output new result is.
    over_grows g.K.KeepingIndexer.indexes g.K.KeepingIndexer.index_fails start input output new result is

pub returns-clause-refs : goal.returns-clause-refs
returns-clause-refs g c = λ start input output new result is.
    over_keeps_refs g.K.KeepingIndexer.indexes g.K.KeepingIndexer.index_fails start input output new result is
