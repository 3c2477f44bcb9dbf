use Rattle.std.proofs.Common.{[], ◌∷◌, Ok, Err, sym, subst, add-one}
use Rattle.ggrammar.specs.Writing.{WritesPackets}
use Rattle.glsreply.specs.LsReplies.{ref_packet}
use Rattle.glsreply.proofs.WritingLemmas.{coming-line, coming-end}
use Rattle.glsreply.proofs.writer.write_refs.Goals as goal

pub loop-line-preserved : goal.loop-line-preserved
loop-line-preserved g c =
    let law = c.writes_packets.ensures in
    let parts = coming-line c.args.ends c.args.lines.now c.loop-line.line-index c.line-item.result c.loop-line-test.true c.line-item.is in
    let wrote = subst (λ line. WritesPackets g.W.Sink.contents g.W.Sink.passed_on g.W.Sink.is_down g.W.Sink.loans c.loop-line.writer c.write_ref.new.writer (Ok tt) (ref_packet line ∷ []))
    c.lend.ensures c.in_ok-write_ref.ensures.lines in
    rw add-one (law.goes_on _ _ _ _ _ (ref_packet c.line-item.result ∷ []) _ c.loop-line.invariant parts wrote)

pub returns-in_err-write_ref : goal.returns-in_err-write_ref
returns-in_err-write_ref g c =
    let law = c.writes_packets.ensures in
    let parts = coming-line c.args.ends c.args.lines.now c.loop-line.line-index c.line-item.result c.loop-line-test.true c.line-item.is in
    let wrote = subst (λ line. WritesPackets g.W.Sink.contents g.W.Sink.passed_on g.W.Sink.is_down g.W.Sink.loans c.loop-line.writer c.write_ref.new.writer (Err c.in_err-write_ref.field-0.0) (ref_packet line ∷ []))
    c.lend.ensures c.in_err-write_ref.ensures.lines in
    law.fails _ _ _ _ _ (ref_packet c.line-item.result ∷ []) _ _ _ c.loop-line.invariant parts wrote c.from_residual.ensures.1

pub returns : goal.returns
returns g c =
    let law = c.writes_packets.ensures in
    law.ends _ _ _ _ _ _ c.loop-line.invariant
    (subst (λ lines. WritesPackets g.W.Sink.contents g.W.Sink.passed_on g.W.Sink.is_down g.W.Sink.loans c.loop-line.writer c.write_end.new.writer c.write_end.result lines)
    (sym (coming-end c.args.ends c.args.lines.now c.loop-line.line-index c.loop-line-test.false)) c.write_end.ensures)
