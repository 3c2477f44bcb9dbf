use Rattle.std.proofs.Common.{[], ◌∷◌, Ok, Err, refl}
use Rattle.gpkt.specs.Packets.{Flush, ResponseEnd}
use Rattle.ggrammar.specs.Endings.{ends_with}
use Rattle.gfetchreply.proofs.write.write_end.Goals as goal

pub returns-in_err-flush_pkt-in-Response : goal.returns-in_err-flush_pkt-in-Response
returns-in_err-flush_pkt-in-Response g c =
    let flush = c.in_err-flush_pkt-in-Response.ensures in
    let law = c.writes_packets.ensures in
    law.fails _ _ _ _ _ (Flush ∷ []) _ _ _ (law.starts c.args.writer.now _) refl
    (law.line _ _ (Err _) Flush flush.written flush.fits) c.from_residual.ensures.1

pub returns-in_ok-flush_pkt-in-Response : goal.returns-in_ok-flush_pkt-in-Response
returns-in_ok-flush_pkt-in-Response g c =
    let flush = c.in_ok-flush_pkt-in-Response.ensures in
    let last = c.response_end.ensures in
    let law = c.writes_packets.ensures in
    law.ends _ _ _ _ (ends_with c.args.ends) _
    (law.goes_on _ _ _ _ _ (Flush ∷ []) _ (law.starts c.args.writer.now _) refl
    (law.line _ _ (Ok tt) Flush flush.written flush.fits))
    (rw c.in-Response.is (law.line _ _ _ ResponseEnd last.written last.fits))
