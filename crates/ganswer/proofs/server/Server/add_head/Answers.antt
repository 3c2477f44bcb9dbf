use Rattle.ganswer.proofs.LsLemmas.{head_added, head_next}
use Rattle.ganswer.proofs.server.Server.add_head.Goals as goal

pub add_ref_line-requires-clause-next : goal.add_ref_line-requires-clause-next
add_ref_line-requires-clause-next g c =
    head_next c.args.self.now c.args.request.now.asked c.name_of_head.result.now c.in-Some.id c.args.reply.now c.name_of_head.ensures c.in-Some.ensures c.requires

pub returns-in-Some-clause-head : goal.returns-in-Some-clause-head
returns-in-Some-clause-head g c =
    head_added c.args.self.now c.args.request.now.asked c.name_of_head.result.now c.in-Some.id c.args.reply.now c.add_ref_line.new.reply c.add_ref_line.result c.name_of_head.ensures c.in-Some.ensures c.requires
    c.add_ref_line.ensures.added
