use Rattle.std.proofs.Common.{subst}
use Rattle.gsession.specs.Sessions.{SessionState}
use Rattle.gsession.specs.TakingRefs.{ReadsRefs}
use Rattle.gpkt.specs.Change.{change_of}
use Rattle.gsession.proofs.ReplyLemmas.{refs_answer, refs_leaves}
use Rattle.gsession.proofs.session.Session.read_refs.Goals as goal

pub returns-in-Ok-clause-takes : goal.returns-in-Ok-clause-takes
returns-in-Ok-clause-takes g c =
    let change = change_of g.S.Source.remaining c.args.reader.now.source c.read_ls_reply_in.new.reader.source in
    refs_answer c.args.self.now c.args.repo.now.graph.entries change c.in-Ok.reply c.take_refs.new.self
    c.take_refs.result c.if-not-awaits_refs.ensures
    (subst (λ (s : SessionState g.row.A.Denot). ReadsRefs s change c.in-Ok.reply) c.self.view_is c.in-Ok.ensures.read)
    c.take_refs.ensures

pub returns-in-Ok-clause-reader : goal.returns-in-Ok-clause-reader
returns-in-Ok-clause-reader g c =
    refs_leaves g.S.Source.is_down c.args.reader.now c.read_ls_reply_in.new.reader c.args.self.now
    c.args.repo.now.graph.entries c.in-Ok.reply c.take_refs.new.self c.take_refs.result c.in-Ok.ensures.reader
    c.take_refs.ensures
