use Rattle.std.proofs.Common.{[], ◌∷◌, refl, sym, subst}
use Rattle.gpkt.specs.Packets.{Flush, ResponseEnd}
use Rattle.ggrammar.specs.Endings.{ends_with}
use Rattle.ggrammar.specs.Writing.{WritesPackets}
use Rattle.glsreply.proofs.writer.write_end.Goals as goal

pub returns-in_err-flush_pkt-in-Response : goal.returns-in_err-flush_pkt-in-Response
returns-in_err-flush_pkt-in-Response g c =
    let law = c.writes_packets.ensures in
    let flushed = c.in_err-flush_pkt-in-Response.ensures in
    subst (λ ends. WritesPackets g.W.Sink.contents g.W.Sink.passed_on g.W.Sink.is_down g.W.Sink.loans c.args.writer.now c.flush_pkt-in-Response.new.self c.from_residual.result (Flush ∷ ends_with ends)) (sym c.in-Response.is)
    (law.fails _ _ _ (Flush ∷ ResponseEnd ∷ []) (Flush ∷ ResponseEnd ∷ []) (Flush ∷ []) (ResponseEnd ∷ []) _ _ (law.starts _ _) refl
    (law.line _ _ _ Flush flushed.written flushed.fits) c.from_residual.ensures.1)

pub returns-in_ok-flush_pkt-in-Response : goal.returns-in_ok-flush_pkt-in-Response
returns-in_ok-flush_pkt-in-Response g c =
    let law = c.writes_packets.ensures in
    let flushed = c.in_ok-flush_pkt-in-Response.ensures in
    subst (λ ends. WritesPackets g.W.Sink.contents g.W.Sink.passed_on g.W.Sink.is_down g.W.Sink.loans c.args.writer.now c.response_end.new.self c.response_end.result (Flush ∷ ends_with ends)) (sym c.in-Response.is)
    (law.ends _ _ _ (Flush ∷ ResponseEnd ∷ []) (ResponseEnd ∷ []) _
    (law.goes_on _ _ _ (Flush ∷ ResponseEnd ∷ []) (Flush ∷ ResponseEnd ∷ []) (Flush ∷ []) (ResponseEnd ∷ []) (law.starts _ _) refl (law.line _ _ _ Flush flushed.written flushed.fits))
    (law.line _ _ _ ResponseEnd c.response_end.ensures.written c.response_end.ensures.fits))
