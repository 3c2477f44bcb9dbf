use Rattle.std.proofs.Common.{◌++◌, ap, ◌∙◌, subst}
use Rattle.gpkt.specs.Packets.{canonical_all}
use Rattle.glsreply.specs.LsReplies.{unborn_packets}
use Rattle.ganswer.specs.LsAnswers.{head_id, head_ref, unborn_of}
use Rattle.gserver.specs.steps.RefLines.{SaysLines}
use Rattle.gserver.proofs.ListingLemmas.{head_line_said, response_over, unborn_line_said}
use Rattle.gserver.proofs.listing.ListingCursor.step.Goals as goal

pub returns-in-Unborn : goal.returns-in-Unborn
returns-in-Unborn g c =
    let server = g.R.ServedRepository.server c.args.self.now.repo in
    rw c.in-Unborn.is (unborn_line_said server c.args.self.now.asked.asked c.args.self.now.ends c.args.self.now.goes_on c.args.out.now c.say_unborn.new.out
    (◌∙◌ {b = c.args.out.now ++ canonical_all (unborn_packets (unborn_of c.server.result.now c.args.self.now.asked.asked))} c.say_unborn.ensures (ap (λ s. c.args.out.now ++ canonical_all (unborn_packets (unborn_of s c.args.self.now.asked.asked))) c.server.ensures)))

pub returns-in-Head : goal.returns-in-Head
returns-in-Head g c =
    let server = g.R.ServedRepository.server c.args.self.now.repo in
    rw c.in-Head.is (head_line_said server c.args.self.now.asked.asked c.args.self.now.ends c.args.self.now.goes_on c.args.out.now c.say_head.new.out
    (subst (λ s. SaysLines s c.args.self.now.asked.asked (head_ref (head_id s.head s.refs)) c.args.out.now c.say_head.new.out) c.server-in-Head.ensures c.say_head.ensures))

pub returns-in-ResponseEnd : goal.returns-in-ResponseEnd
returns-in-ResponseEnd g c =
    rw c.in-ResponseEnd.is (rw c.said_at_end.ensures (response_over (g.R.ServedRepository.server c.args.self.now.repo) c.args.self.now.asked.asked c.args.self.now.ends c.args.self.now.goes_on
    c.args.out.now c.put_response_end.new.self c.put_response_end.ensures))
