use Rattle.gfetch.proofs.CountLemmas.{rounds_are_asked}
use Rattle.gfetch.proofs.laws.rounds_are_asked.Goals as goal

pub returns : goal.returns
returns g c = rounds_are_asked g.K.KeepingIndexer.indexes g.K.KeepingIndexer.index_fails
