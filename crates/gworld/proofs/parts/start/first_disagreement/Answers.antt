use Rattle.std.proofs.Common.{◌≤◌, ◌<◌, length, arith, rules}
use Rattle.gdag.specs.Laws.{AgreesWith}
use Rattle.gworld.proofs.Starting.{first_found, graphs_agree, one_more}
use Rattle.gworld.proofs.parts.start.first_disagreement.Goals as goal

pub returns-in-Some : goal.returns-in-Some
returns-in-Some g c =
    first_found c.args.server.now.entries c.args.client.now.entries c.loop-place.place c.in-Some.id
    c.loop-place.invariant c.in-Some.ensures

pub loop-place-preserved : goal.loop-place-preserved
loop-place-preserved g c =
    let inside : c.loop-place.place < length c.args.server.now.entries = search rules in
    one_more (AgreesWith c.args.client.now.entries) c.args.server.now.entries c.loop-place.place inside
    c.in_default.ensures c.loop-place.invariant

pub returns : goal.returns
returns g c =
    let past : length c.args.server.now.entries ≤ c.loop-place.place =
    omega (arith, c.loop-place-test.false, c.len-place-end.ensures.len) in
    graphs_agree c.positions_are_nodes.ensures c.args.server.now.entries c.args.client.now.entries c.loop-place.place past
    c.len-place-end.ensures.graph.differ c.loop-place.invariant
