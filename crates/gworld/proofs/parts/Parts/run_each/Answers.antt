use Rattle.std.proofs.Common.{◌+◌, ◌<◌, take, length, arith, rules}
use Rattle.gworld.specs.KeepingWorlds.{kept_world}
use Rattle.gworld.specs.Worlds.{tools_of}
use Rattle.gdag.proofs.Growing.{take_one}
use Rattle.gsession.proofs.KeepingLemmas.{keeps_none, keeps_then}
use Rattle.gworld.proofs.Runs.{begins_soundly, front_runs, goes_on_soundly}
use Rattle.gworld.proofs.parts.Parts.run_each.Goals as goal

pub loop-event-init : goal.loop-event-init
loop-event-init g c =
    let tools = tools_of (g.P.Packer.packs c.args.packer.now) (g.P.Packer.pack_fails c.args.packer.now)
    g.I.KeepingIndexer.indexes g.I.KeepingIndexer.index_fails in
    let keeps = g.I.KeepingIndexer.keeps in (
      begins_soundly tools keeps (kept_world c.args.packer.now c.args.indexer.now c.args.self.now) c.args.events.now
          c.args.outcomes.items c.requires.sound c.requires.none,
      keeps_none (keeps c.args.indexer.now) c.args.self.now.repo.graph.entries,
      c.requires.empty,
      c.requires.room,
    )

pub push_reserved-requires : goal.push_reserved-requires
push_reserved-requires g c =
    let inside : c.loop-event.event-index < length c.args.events.now = search rules in
    omega (arith, inside, c.loop-event.invariant.2, c.loop-event.invariant.3)

pub returns-in-Err-clause-keeps : goal.returns-in-Err-clause-keeps
returns-in-Err-clause-keeps g c =
    let keeps = g.I.KeepingIndexer.keeps in
    keeps_then (keeps c.args.indexer.now) (keeps c.loop-event.indexer) (keeps c.step_or_refuse.new.indexer)
    c.args.self.now.repo.graph.entries c.loop-event.self.repo.graph.entries
    c.step_or_refuse.new.self.repo.graph.entries c.loop-event.invariant.1 c.in-Err.ensures.keeps

pub returns-in-Err-clause-runs : goal.returns-in-Err-clause-runs
returns-in-Err-clause-runs g c =
    let tools = tools_of (g.P.Packer.packs c.args.packer.now) (g.P.Packer.pack_fails c.args.packer.now)
    g.I.KeepingIndexer.indexes g.I.KeepingIndexer.index_fails in
    let keeps = g.I.KeepingIndexer.keeps in
    let inside : c.loop-event.event-index < length c.args.events.now = search rules in
    let start = kept_world c.args.packer.now c.args.indexer.now c.args.self.now in
    rw (c.in-Err.ensures.step.0, c.in-Err.ensures.same) (front_runs tools keeps {s = start}
    {v = kept_world c.args.packer.now c.loop-event.indexer c.loop-event.self} c.args.events.now c.loop-event.event-index
    c.event-item.result c.loop-event.results.items inside c.event-item.is
    c.loop-event.invariant.0 c.in-Err.ensures.step.1)

pub loop-event-preserved : goal.loop-event-preserved
loop-event-preserved g c =
    let tools = tools_of (g.P.Packer.packs c.args.packer.now) (g.P.Packer.pack_fails c.args.packer.now)
    g.I.KeepingIndexer.indexes g.I.KeepingIndexer.index_fails in
    let keeps = g.I.KeepingIndexer.keeps in
    let inside : c.loop-event.event-index < length c.args.events.now = search rules in
    let outcome = c.in-Ok.outcome in (
      goes_on_soundly tools keeps
          (take c.loop-event.event-index c.args.events.now)
          (take (c.loop-event.event-index + 1) c.args.events.now) c.event-item.result c.loop-event.results.items
          c.push_reserved.new.self.items outcome
          c.loop-event.invariant.0 c.in-Ok.ensures.step
          (take_one c.args.events.now c.loop-event.event-index c.event-item.result inside c.event-item.is)
          c.push_reserved.ensures.items,
      keeps_then (keeps c.args.indexer.now) (keeps c.loop-event.indexer) (keeps c.step_or_refuse.new.indexer)
          c.args.self.now.repo.graph.entries c.loop-event.self.repo.graph.entries
          c.step_or_refuse.new.self.repo.graph.entries c.loop-event.invariant.1 c.in-Ok.ensures.keeps,
      search rules,
      search rules,
    )
