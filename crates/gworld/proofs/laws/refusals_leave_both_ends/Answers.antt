use Rattle.gworld.specs.Worlds.{tools_of}
use Rattle.gworld.proofs.Kept.{refused_leaves}
use Rattle.gworld.proofs.laws.refusals_leave_both_ends.Goals as goal

pub returns : goal.returns
returns g c = λ k w new event number step.
    let tools = tools_of (g.P.Packer.packs k) (g.P.Packer.pack_fails k) g.I.KeepingIndexer.indexes
    g.I.KeepingIndexer.index_fails in
    refused_leaves tools c.taking_only_grows.ensures c.refusals_change_nothing.ensures c.servers_grow.ensures w new
    number event step
