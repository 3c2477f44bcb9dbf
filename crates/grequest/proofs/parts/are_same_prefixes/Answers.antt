use Rattle.std.proofs.Common.{◌≡◌, get_or, sym, ap, ◌∙◌, arith}
use Rattle.std.proofs.lemmas.List.{take_more_same}
use Rattle.grequest.proofs.parts.are_same_prefixes.Goals as goal

pub loop-place-preserved : goal.loop-place-preserved
loop-place-preserved g c =
    let same : c.index-left-place.result ≡ c.index-right-place.result = c.is_same_prefix.ensures.0 c.if-not-is_same_prefix.false in
    take_more_same c.args.left.now c.args.right.now c.loop-place.place c.index-left-place.result c.loop-place-test.true (omega (arith, c.loop-place-test.true, c.if-left-right.false)) c.loop-place.invariant
    (sym c.index-left-place.is ∙ (same ∙ (c.index-right-place.is ∙ ap (get_or c.args.right.now c.loop-place.place) (sym same))))
