use Rattle.std.proofs.Common.{[], arith}
use Rattle.gitcommitgraph.proofs.ParentLemmas.{follows_more}
use Rattle.gitcommitgraph.proofs.tables.follow.Goals as goal

pub returns-then-len-most : goal.returns-then-len-most
returns-then-len-most g c =
    let more = follows_more c.args.list.items c.loop-edge.list.items c.args.edges.now c.loop-edge.edge-index 0 [] (omega arith) c.loop-edge.invariant in
    let full = c.if-len-most.true in
    omega (arith, more, full)
