use Rattle.gworld.specs.Worlds.{tools_of}
use Rattle.gworld.proofs.Runs.{all_kept}
use Rattle.gworld.proofs.laws.honest_runs_keep_all.Goals as goal

pub returns : goal.returns
returns g c = all_kept (tools_of (g.K.Packer.packs c.args.tools.now) (g.K.Packer.pack_fails c.args.tools.now)
    g.K.Indexer.indexes g.K.Indexer.index_fails) c.faithful_lose_nothing.ensures
