use Rattle.std.proofs.Common.{arith}
use Rattle.gitcommitgraph.proofs.ChainLemmas.{commit_in}
use Rattle.gitcommitgraph.proofs.graph.find_layer.Goals as goal

pub returns-then-place-count : goal.returns-then-place-count
returns-then-place-count g c =
    let low = c.if-place-count.true in
    let count = c.len-count.ensures in record {
      inside = omega (arith, low, count);
      same = λ commit. commit_in c.args.layers.now c.loop-layer.layer-index c.layer-item.result (omega arith) c.layer-item.is c.args.position c.loop-layer.place commit (omega (arith, low, count)) c.loop-layer.invariant;
    }
