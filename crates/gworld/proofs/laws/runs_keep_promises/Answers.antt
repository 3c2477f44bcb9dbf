use Rattle.gworld.specs.Worlds.{tools_of}
use Rattle.gworld.proofs.Starting.{starts_soundly}
use Rattle.gworld.proofs.Connected.{runs_keep}
use Rattle.gworld.proofs.laws.runs_keep_promises.Goals as goal

pub returns : goal.returns
returns g c = record {
  begins = λ k. starts_soundly (tools_of (g.P.Packer.packs k) (g.P.Packer.pack_fails k) g.I.KeepingIndexer.indexes
      g.I.KeepingIndexer.index_fails);
  keeps = λ k. runs_keep (tools_of (g.P.Packer.packs k) (g.P.Packer.pack_fails k) g.I.KeepingIndexer.indexes
      g.I.KeepingIndexer.index_fails) (c.steps_keep.ensures k) (c.ends_stay_connected.ensures k);
}
