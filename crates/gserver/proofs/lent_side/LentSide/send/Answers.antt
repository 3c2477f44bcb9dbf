use Rattle.std.proofs.Common.{◌≡◌, ◌∙◌, List}
use Rattle.gpkt.specs.Packets.{Packet}
use Rattle.gfetchreply.specs.FetchReplies.{canonical_reply}
use Rattle.gfetchreply.specs.Views.{reply_in}
use Rattle.gserver.specs.declared.reply.ServerReply.TheVariants as made
use Rattle.gserver.proofs.LentLemmas.{fewer_so, says_so}
use Rattle.gserver.proofs.lent_side.LentSide.send.Goals as goal

pub returns-clause-replies : goal.returns-clause-replies
returns-clause-replies g c = λ said goes may.
    let old = c.args.self.now in
    let r = says_so (λ (l : List Packet). l ≡ canonical_reply old.ends (reply_in c.args.reply)) (made.Speech c.speak_reply-speech.result)
    c.count-goes_on.result c.answer_of.result c.speak_reply-speech.ensures c.answer_of.ensures said goes may in
    (r.0, r.1 ∙ c.count-goes_on.ensures.goes)

pub returns-clause-fewer : goal.returns-clause-fewer
returns-clause-fewer g c = λ reply went.
    fewer_so c.args.self.now c.count-goes_on.new.self (made.Speech c.speak_reply-speech.result) reply c.count-goes_on.result c.answer_of.result
    c.count-goes_on.ensures.goes c.count-goes_on.ensures.fewer c.count-goes_on.ensures.counts.keeps.most c.answer_of.ensures went
