use Rattle.std.proofs.Common.{◌≡◌, ◌∙◌, List}
use Rattle.gpkt.specs.Packets.{Packet}
use Rattle.glsreply.specs.LsReplies.{LsReply, canonical_reply}
use Rattle.ganswer.specs.LsAnswers.{LsAnswer}
use Rattle.gserver.proofs.LentLemmas.{fewer_so, says_so}
use Rattle.gserver.proofs.lent_side.LentSide.list.Goals as goal

pub returns-clause-replies : goal.returns-clause-replies
returns-clause-replies g c = λ said goes may.
    let old = c.args.self.now in
    let r = says_so (λ (l : List Packet). (reply : LsReply) × LsAnswer old.server.now c.args.asked.asked reply × (l ≡ canonical_reply old.ends reply))
    c.list_reply-reply.result c.count-goes_on.result c.answer_of.result
    (λ l on says. let s = c.list_reply-reply.ensures l on says in ((s.reply, s.answers, s.all), s.goes_so)) c.answer_of.ensures said goes may in
    (r.0, r.1 ∙ c.count-goes_on.ensures.goes)

pub returns-clause-fewer : goal.returns-clause-fewer
returns-clause-fewer g c = λ reply went.
    fewer_so c.args.self.now c.count-goes_on.new.self c.list_reply-reply.result reply c.count-goes_on.result c.answer_of.result
    c.count-goes_on.ensures.goes c.count-goes_on.ensures.fewer c.count-goes_on.ensures.counts.keeps.most c.answer_of.ensures went
