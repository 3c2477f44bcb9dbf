use Rattle.std.proofs.Common.{◌≤◌, ◌<◌, length, arith, rules}
use Rattle.gobject.specs.declared.node.Entry.{Entry}
use Rattle.gworld.proofs.Starting.{graph_kept, one_more, unkept_found}
use Rattle.gworld.proofs.parts.start.first_unkept.Goals as goal

pub returns-in-Some : goal.returns-in-Some
returns-in-Some g c =
    unkept_found (g.I.KeepingIndexer.keeps c.args.indexer.now) c.args.graph.now.entries c.loop-place.place c.in-Some.id
    c.loop-place.invariant c.in-Some.ensures

pub loop-place-preserved : goal.loop-place-preserved
loop-place-preserved g c =
    let inside : c.loop-place.place < length c.args.graph.now.entries = search rules in
    one_more (λ (e : Entry g.row.A.Denot). g.I.KeepingIndexer.keeps c.args.indexer.now e.id) c.args.graph.now.entries
    c.loop-place.place inside c.in_default.ensures c.loop-place.invariant

pub returns : goal.returns
returns g c =
    let past : length c.args.graph.now.entries ≤ c.loop-place.place =
    omega (arith, c.loop-place-test.false, c.len-place-end.ensures.len) in
    graph_kept c.positions_are_nodes.ensures (g.I.KeepingIndexer.keeps c.args.indexer.now) c.args.graph.now.entries
    c.loop-place.place past c.len-place-end.ensures.graph.differ c.loop-place.invariant
