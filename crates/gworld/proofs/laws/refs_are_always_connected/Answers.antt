use Rattle.gworld.specs.Worlds.{tools_of}
use Rattle.gworld.specs.Promises.{AreRefsConnected}
use Rattle.gworld.proofs.Runs.{kept_on}
use Rattle.gworld.proofs.laws.refs_are_always_connected.Goals as goal

pub returns : goal.returns
returns g c = λ k w new v front rest outcomes is leads.
    let tools = tools_of (g.P.Packer.packs k) (g.P.Packer.pack_fails k) g.I.KeepingIndexer.indexes
    g.I.KeepingIndexer.index_fails in
    kept_on tools AreRefsConnected (λ x e outcome next promised. promised.refs) w v front leads.early is leads.before
