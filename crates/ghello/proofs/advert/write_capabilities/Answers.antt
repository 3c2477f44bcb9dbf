use Rattle.ghello.proofs.AdvertLemmas.{packets_from}
use Rattle.ghello.proofs.advert.write_capabilities.Goals as goal

pub returns-in_err-write : goal.returns-in_err-write
returns-in_err-write g c =
    let next = packets_from c.args.capabilities.now c.loop-capability.capability-index c.capability-item.result c.loop-capability-test.true c.capability-item.is in
    c.writes_packets.ensures.part _ _ _ _ (c.writes_packets.ensures.fails _ _ _ _ _ _ _ _ _ c.loop-capability.invariant next c.in_err-write.ensures c.from_residual.ensures.1)

pub loop-capability-preserved : goal.loop-capability-preserved
loop-capability-preserved g c =
    let next = packets_from c.args.capabilities.now c.loop-capability.capability-index c.capability-item.result c.loop-capability-test.true c.capability-item.is in
    c.writes_packets.ensures.goes_on _ _ _ _ _ _ _ c.loop-capability.invariant next c.in_ok-write.ensures
