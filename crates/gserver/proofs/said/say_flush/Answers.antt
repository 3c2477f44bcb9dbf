use Rattle.gserver.proofs.StepLemmas.{flush_said}
use Rattle.gserver.proofs.said.say_flush.Goals as goal

pub returns-in-Response : goal.returns-in-Response
returns-in-Response g c =
    flush_said g.row.A.Denot g.R.PartPacker.gives g.R.PartPacker.most c.args.ends c.args.goes_on c.args.out.now c.put_flush.new.self
    c.in-Response.is c.put_flush.ensures
