use Rattle.std.proofs.Common.{◌∙◌, refl, arith}
use Rattle.gitcommitgraph.proofs.ChainLemmas.{above_more}
use Rattle.gitcommitgraph.proofs.layer.Layer.is_above.Goals as goal

pub loop-place-preserved : goal.loop-place-preserved
loop-place-preserved g c =
    let long = c.if-bases-layers.false in
    above_more c.bases-bases.result.now c.args.layers.now c.loop-place.place c.index-layers-place.result (omega (arith, long)) (omega arith) c.index-layers-place.is
    (c.if-not-is_same.ensures.0 refl ∙ c.checksum.ensures) c.loop-place.invariant
