use Rattle.gworld.specs.KeepingWorlds.{kept_world}
use Rattle.gworld.specs.Worlds.{tools_of}
use Rattle.gworld.proofs.Runs.{none_runs}
use Rattle.gworld.proofs.parts.Parts.run_events.Goals as goal

pub returns-in-Err-clause-runs : goal.returns-in-Err-clause-runs
returns-in-Err-clause-runs g c =
    let tools = tools_of (g.P.Packer.packs c.args.packer.now) (g.P.Packer.pack_fails c.args.packer.now)
    g.I.KeepingIndexer.indexes g.I.KeepingIndexer.index_fails in
    none_runs tools g.I.KeepingIndexer.keeps (kept_world c.args.packer.now c.args.indexer.now c.args.self.now)
    c.args.events.now _ c.in-Err.ensures.0 c.in-Err.ensures.1
