use Rattle.std.proofs.Common.{List, map, ap, subst}
use Rattle.std.proofs.lemmas.List.{drop_all}
use Rattle.gpkt.specs.Packets.{Packet}
use Rattle.ggrammar.specs.Writing.{IsWriting}
use Rattle.gfetchreply.specs.FetchReplies.{ack_packet}
use Rattle.gfetchreply.proofs.WritingLemmas.{ids_next}
use Rattle.gfetchreply.proofs.write.write_ids.Goals as goal

pub loop-id-init : goal.loop-id-init
loop-id-init g c = c.writes_packets.ensures.starts c.args.writer.now (map ack_packet c.args.ids.now)

pub returns-in_err-write_id : goal.returns-in_err-write_id
returns-in_err-write_id g c =
    let law = c.writes_packets.ensures in
    law.part _ _ _ (map ack_packet c.args.ids.now)
    (law.fails _ _ _ _ _ _ _ _ _ c.loop-id.invariant
    (ids_next c.args.ids.now c.loop-id.id-index c.id-item.result c.loop-id-test.true c.id-item.is)
    c.in_err-write_id.ensures c.from_residual.ensures.1)

pub loop-id-preserved : goal.loop-id-preserved
loop-id-preserved g c =
    c.writes_packets.ensures.goes_on _ _ _ _ _ _ _ c.loop-id.invariant
    (ids_next c.args.ids.now c.loop-id.id-index c.id-item.result c.loop-id-test.true c.id-item.is)
    c.in_ok-write_id.ensures

pub returns : goal.returns
returns g c =
    subst
    (λ (xs : List Packet). IsWriting g.W.Sink.contents g.W.Sink.passed_on g.W.Sink.is_down g.W.Sink.loans c.args.writer.now c.loop-id.writer (map ack_packet c.args.ids.now) xs)
    (ap (map ack_packet) (drop_all c.loop-id.id-index c.args.ids.now c.loop-id-test.false)) c.loop-id.invariant
