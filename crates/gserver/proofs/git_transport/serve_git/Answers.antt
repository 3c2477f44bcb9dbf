use Rattle.std.proofs.Common.{rules}
use Rattle.gserver.specs.Refusals.{err_packets}
use Rattle.gserver.specs.GitConnections.{elsewhere, elsewhere_packets, refusal}
use Rattle.gserver.proofs.git_transport.serve_git.Goals as goal

pub returns-in-Ok-2-clause-serves : goal.returns-in-Ok-2-clause-serves
returns-in-Ok-2-clause-serves g c =
    let sent = c.in-Err-send_away.ensures.sent in
    (elsewhere_packets, elsewhere (c.in-Ok-2.field-0, c.in-Ok-2.ensures.hears, search rules), sent.0, sent.1)

pub returns-clause-serves : goal.returns-clause-serves
returns-clause-serves g c =
    let sent = c.in-Err-report.ensures.sent in
    (err_packets c.in-Err.fault, refusal c.in-Err.fault c.in-Err.ensures.hears, sent.0, sent.1)
