use Rattle.std.proofs.Common.{refl, sym}
use Rattle.gfetchreply.proofs.WritingLemmas.{tells_on}
use Rattle.gfetchreply.proofs.value.are_of.Goals as goal

pub loop-id-preserved : goal.loop-id-preserved
loop-id-preserved c =
    tells_on c.args.format c.args.ids.now c.loop-id.id-index c.id-item.result c.loop-id-test.true c.id-item.is (sym c.if-not-is_of.ensures.same)
    (c.if-not-is_of.ensures.of_format refl) c.loop-id.invariant
