use Rattle.gworld.specs.Events.{Step}
use Rattle.gworld.specs.Promises.{Promises}
use Rattle.gworld.specs.Worlds.{tools_of}
use Rattle.gworld.proofs.Kept.{parted}
use Rattle.gworld.proofs.laws.fronts_are_runs.Goals as goal

pub returns : goal.returns
returns g c = record {
  runs = λ k. parted (Step (tools_of (g.P.Packer.packs k) (g.P.Packer.pack_fails k) g.I.KeepingIndexer.indexes
      g.I.KeepingIndexer.index_fails));
  promises = λ k. parted (Promises (tools_of (g.P.Packer.packs k) (g.P.Packer.pack_fails k) g.I.KeepingIndexer.indexes
      g.I.KeepingIndexer.index_fails));
}
