use Rattle.gsession.proofs.ReplyLemmas.{unaccepted}
use Rattle.gsession.proofs.session.Session.accept_refs.Goals as goal

pub returns-in-Err : goal.returns-in-Err
returns-in-Err g c =
    unaccepted c.args.self.now c.take_refs.new.self c.end_with_fault.new.self c.args.repo.now.graph.entries
    c.args.reply.now c.in-Err.fault c.end_with_fault.result c.if-not-awaits_refs.ensures c.in-Err.ensures
    c.end_with_fault.ensures.fault c.end_with_fault.ensures.session
