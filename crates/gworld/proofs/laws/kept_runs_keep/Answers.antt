use Rattle.gworld.specs.Worlds.{tools_of}
use Rattle.gworld.specs.KeepingWorlds.{KeptPromises}
use Rattle.gworld.proofs.Kept.{parted}
use Rattle.gworld.proofs.Runs.{always_keeps, kept_run, run_keeps}
use Rattle.gworld.proofs.laws.kept_runs_keep.Goals as goal

pub returns : goal.returns
returns g c = record {
  promises = λ k. kept_run (tools_of (g.P.Packer.packs k) (g.P.Packer.pack_fails k) g.I.KeepingIndexer.indexes
      g.I.KeepingIndexer.index_fails) g.I.KeepingIndexer.keeps;
  fronts = λ k. parted (KeptPromises (tools_of (g.P.Packer.packs k) (g.P.Packer.pack_fails k)
      g.I.KeepingIndexer.indexes g.I.KeepingIndexer.index_fails) g.I.KeepingIndexer.keeps);
  always = λ k. always_keeps (tools_of (g.P.Packer.packs k) (g.P.Packer.pack_fails k) g.I.KeepingIndexer.indexes
      g.I.KeepingIndexer.index_fails) g.I.KeepingIndexer.keeps;
  keeps = λ k. run_keeps (tools_of (g.P.Packer.packs k) (g.P.Packer.pack_fails k) g.I.KeepingIndexer.indexes
      g.I.KeepingIndexer.index_fails) g.I.KeepingIndexer.keeps;
}
