use Rattle.std.proofs.Common.{false, slice_index_or, ap}
use Rattle.grequest.proofs.WriteLemmas.{flags_next}
use Rattle.grequest.proofs.write.write_flags.Goals as goal

pub write_flag-requires : goal.write_flag-requires
write_flag-requires g c =
    let row = c.loop-flag-item.result in
    rw (c.as_bytes.ensures.value, c.loop-flag-item.is) (c.requires c.loop-flag.flag-index row c.loop-flag-test.true)

pub returns-in_err-write_flag : goal.returns-in_err-write_flag
returns-in_err-write_flag g c =
    let next =
    flags_next g.F.Flag.number c.args.flags.now c.args.table.now c.loop-flag.flag-index c.loop-flag-item.result c.as_bytes.result.now _ c.loop-flag-test.true c.loop-flag-item.is
    c.as_bytes.ensures.value (ap (λ at. slice_index_or c.args.flags.now at false) c.number.ensures.number) in
    c.writes_packets.ensures.part _ _ _ _ (c.writes_packets.ensures.fails _ _ _ _ _ _ _ _ _ c.loop-flag.invariant next c.in_err-write_flag.ensures c.from_residual.ensures.1)

pub loop-flag-preserved : goal.loop-flag-preserved
loop-flag-preserved g c =
    let next =
    flags_next g.F.Flag.number c.args.flags.now c.args.table.now c.loop-flag.flag-index c.loop-flag-item.result c.as_bytes.result.now _ c.loop-flag-test.true c.loop-flag-item.is
    c.as_bytes.ensures.value (ap (λ at. slice_index_or c.args.flags.now at false) c.number.ensures.number) in
    c.writes_packets.ensures.after_part _ _ _ _ _ _ _ c.loop-flag.invariant next c.in_ok-write_flag.ensures
