use Rattle.gworld.specs.Worlds.{tools_of}
use Rattle.gworld.proofs.Fetching.{completed}
use Rattle.gworld.proofs.laws.fetches_complete.Goals as goal

pub returns : goal.returns
returns g c = λ k w new begun rounds reached parents.
    completed (tools_of (g.P.Packer.packs k) (g.P.Packer.pack_fails k) g.I.KeepingIndexer.indexes
    g.I.KeepingIndexer.index_fails) (c.steps_keep.ensures k) (c.graphs_only_grow.ensures k) c.rounds_are_few.ensures
    c.counts_stay.ensures c.reached_are_counted.ensures reached parents w new begun rounds
