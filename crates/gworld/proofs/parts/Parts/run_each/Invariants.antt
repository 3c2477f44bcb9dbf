use Rattle.std.proofs.Common.{◌≡◌, ◌≤◌, length, take}
use Rattle.std.specs.Vec.{vec_len, vec_capacity}
use Rattle.gsession.specs.Keeping.{KeepsOn}
use Rattle.gworld.specs.KeepingWorlds.{kept_world}
use Rattle.gworld.specs.steps.Bringing.{RunsSoundly}
use Rattle.gworld.specs.Worlds.{tools_of}
use Rattle.gworld.proofs.parts.Parts.run_each.Given as goal

-- The events so far are a run with one outcome each, and the list has room for the outcomes of all events. The indexer
-- keeps each object that the client's graph gained.
abbrev pub invariant-loop-event : goal.invariant-loop-event
invariant-loop-event g l =
    let keeps = g.I.KeepingIndexer.keeps in
    RunsSoundly (tools_of (g.P.Packer.packs l.packer) (g.P.Packer.pack_fails l.packer) g.I.KeepingIndexer.indexes
    g.I.KeepingIndexer.index_fails) keeps (kept_world l.packer l.fn.indexer l.fn.self)
    (take l.event-index l.events) l.results.items (kept_world l.packer l.indexer l.self)
    × KeepsOn (keeps l.fn.indexer) (keeps l.indexer) l.fn.self.repo.graph.entries l.self.repo.graph.entries
    × (vec_len l.results ≡ l.event-index) × (length l.events ≤ vec_capacity l.results)
