use Rattle.gworld.specs.KeepingWorlds.{KeptNeedsMemory, KeptPromises, KeptWorld, kept_world}
use Rattle.gworld.specs.Promises.{Promises}
use Rattle.gworld.specs.Runs.{NeedsMemory}
use Rattle.gworld.specs.Worlds.{tools_of}
use Rattle.gworld.proofs.Runs.{none_refused, result_maps}
use Rattle.gworld.proofs.world.World.run.Goals as goal

pub returns-clause-runs : goal.returns-clause-runs
returns-clause-runs g c =
    let tools = tools_of (g.K.Packer.packs c.self.inside.tools) (g.K.Packer.pack_fails c.self.inside.tools)
    g.K.Indexer.indexes g.K.Indexer.index_fails in
    rw (← c.self.view_is) (result_maps (λ (s : KeptWorld _ _ _). s.world) (KeptPromises tools _) (Promises tools)
    (none_refused tools _ (λ i id. tt)) KeptNeedsMemory NeedsMemory (λ s e needs. needs)
    (kept_world c.self.inside.tools c.new-indexer.result c.self.inside.parts)
    (kept_world c.self.inside.tools c.run_events-result.new.indexer c.run_events-result.new.self) c.args.events.now
    c.run_events-result.result c.run_events-result.ensures.runs)
