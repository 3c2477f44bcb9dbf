use Rattle.std.proofs.Common.{◌≤◌, ◌<◌, length, arith}
use Rattle.std.proofs.lemmas.List.{take_all}
use Rattle.ggraph.proofs.SaveLemmas.{nodes_more}
use Rattle.ggraph.proofs.text.saving.put_nodes.Goals as goal

pub loop-place-preserved : goal.loop-place-preserved
loop-place-preserved g c =
    let inside : c.loop-place.place < length c.args.graph.now.entries = let n = c.len-place-end.ensures.len in omega (arith, c.loop-place-test.true) in
    nodes_more c.args.graph.now.entries c.loop-place.place inside c.args.text.now.items c.loop-place.text.items c.put_node.new.text.items c.loop-place.invariant c.in_ok-put_node.ensures

pub returns : goal.returns
returns g c =
    let past : length c.args.graph.now.entries ≤ c.loop-place.place = let n = c.len-place-end.ensures.len in omega (arith, c.loop-place-test.false) in
    rw (take_all c.loop-place.place c.args.graph.now.entries past) at c.loop-place.invariant
