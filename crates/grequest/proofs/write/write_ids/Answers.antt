use Rattle.grequest.specs.RequestWriting.{id_packet}
use Rattle.grequest.proofs.WriteLemmas.{coming_next}
use Rattle.grequest.proofs.write.write_ids.Goals as goal

pub returns-in_err-write_id : goal.returns-in_err-write_id
returns-in_err-write_id g c =
    let next = coming_next (id_packet c.args.word.now) c.args.ids.now c.loop-id.id-index c.id-item.result c.loop-id-test.true c.id-item.is in
    c.writes_packets.ensures.part _ _ _ _ (c.writes_packets.ensures.fails _ _ _ _ _ _ _ _ _ c.loop-id.invariant next c.in_err-write_id.ensures c.from_residual.ensures.1)

pub loop-id-preserved : goal.loop-id-preserved
loop-id-preserved g c =
    let next = coming_next (id_packet c.args.word.now) c.args.ids.now c.loop-id.id-index c.id-item.result c.loop-id-test.true c.id-item.is in
    c.writes_packets.ensures.goes_on _ _ _ _ _ _ _ c.loop-id.invariant next c.in_ok-write_id.ensures
