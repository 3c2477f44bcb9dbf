use Rattle.std.proofs.Common.{List, subst}
use Rattle.gpkt.specs.Packets.{Packet}
use Rattle.gpkt.specs.Sending.{output_of}
use Rattle.gserver.specs.steps.Connections.{PassesPackets}
use Rattle.gserver.proofs.ErrorLemmas.{err_line}
use Rattle.gserver.proofs.error_line.report.Goals as goal

pub returns-clause-sent : goal.returns-clause-sent
returns-clause-sent g c =
    let output = output_of g.W.Sink.contents g.W.Sink.passed_on g.W.Sink.is_down c.args.sink.now
    c.send_error.new.sink in
    subst (λ (lines : List Packet). PassesPackets output c.send_error.result lines)
    (err_line _ c.args.fault.now c.err_text-len.ensures.text)
    c.send_error.ensures.sent
