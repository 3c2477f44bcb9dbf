use Rattle.gitmemory.proofs.TakingLemmas.{taken_kept}
use Rattle.gitmemory.proofs.indexer.MemoryIndexerKeepingIndexer.finish.Goals as goal

pub returns-in-Ok-clause-kept : goal.returns-in-Ok-clause-kept
returns-in-Ok-clause-kept g c =
    taken_kept c.in_ok-batch.batch.types c.add_all.new.self c.in-Ok.ensures.holds c.in_ok-batch.entries.items c.in_ok-batch.ensures.taken
