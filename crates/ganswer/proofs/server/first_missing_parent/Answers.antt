use Rattle.std.proofs.Common.{◌≤◌, length, arith}
use Rattle.std.proofs.lemmas.List.{take_all}
use Rattle.gdag.specs.Graphs.{Holds}
use Rattle.ganswer.proofs.ServerLemmas.{closed_by_positions, first_of_all, parents_more}
use Rattle.ganswer.proofs.server.first_missing_parent.Goals as goal

pub returns-in-Some : goal.returns-in-Some
returns-in-Some g c =
    first_of_all c.args.graph.now.entries c.loop-place.place c.parents.result.now c.in-Some.id c.parents.ensures c.loop-place.invariant c.in-Some.ensures

pub loop-place-preserved : goal.loop-place-preserved
loop-place-preserved g c =
    let entries = c.args.graph.now.entries in
    parents_more (Holds entries) entries c.loop-place.place c.parents.result.now c.parents.ensures c.loop-place.invariant c.in_default.ensures

pub returns : goal.returns
returns g c =
    let entries = c.args.graph.now.entries in
    let past : length entries ≤ c.loop-place.place = omega (arith, c.loop-place-test.false, c.len-place-end.ensures.len) in
    closed_by_positions entries c.positions_are_nodes.ensures c.len-place-end.ensures.graph.differ (rw (take_all c.loop-place.place entries past) at c.loop-place.invariant)
