use Rattle.gworld.specs.Worlds.{tools_of}
use Rattle.gworld.proofs.Runs.{is_run}
use Rattle.gworld.proofs.laws.promises_are_runs.Goals as goal

pub returns : goal.returns
returns g c = λ k. is_run (tools_of (g.P.Packer.packs k) (g.P.Packer.pack_fails k) g.I.KeepingIndexer.indexes
    g.I.KeepingIndexer.index_fails)
