use Rattle.gworld.specs.Worlds.{tools_of}
use Rattle.gworld.proofs.Kept.{graphs_grow}
use Rattle.gworld.proofs.laws.graphs_only_grow.Goals as goal

pub returns : goal.returns
returns g c = λ k.
    let tools = tools_of (g.P.Packer.packs k) (g.P.Packer.pack_fails k) g.I.KeepingIndexer.indexes
    g.I.KeepingIndexer.index_fails in
    graphs_grow tools c.taking_only_grows.ensures c.refusals_change_nothing.ensures c.servers_grow.ensures
