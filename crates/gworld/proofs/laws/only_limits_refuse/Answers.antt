use Rattle.gworld.specs.Worlds.{tools_of}
use Rattle.gworld.proofs.Fetching.{only_limits}
use Rattle.gworld.proofs.laws.only_limits_refuse.Goals as goal

pub returns : goal.returns
returns g c = λ k w new s.
    only_limits (tools_of (g.P.Packer.packs k) (g.P.Packer.pack_fails k) g.I.KeepingIndexer.indexes
    g.I.KeepingIndexer.index_fails) w new s
