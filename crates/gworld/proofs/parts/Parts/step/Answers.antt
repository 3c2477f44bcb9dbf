use Rattle.gworld.specs.Worlds.{tools_of}
use Rattle.gworld.proofs.Keeping.{step_keeps}
use Rattle.gworld.proofs.parts.Parts.step.Goals as goal

pub returns-clause-keeps : goal.returns-clause-keeps
returns-clause-keeps g c =
    let tools = tools_of (g.P.Packer.packs c.args.packer.now) (g.P.Packer.pack_fails c.args.packer.now)
    g.I.KeepingIndexer.indexes g.I.KeepingIndexer.index_fails in
    step_keeps tools c.args.self.now c.happen.new.self g.I.KeepingIndexer.keeps c.args.indexer.now c.happen.new.indexer
    c.refusals_change_nothing.ensures c.args.event.now c.in_ok-outcome.outcome c.in_ok-outcome.ensures.step
    c.in_ok-outcome.ensures.keeps c.requires.kept
