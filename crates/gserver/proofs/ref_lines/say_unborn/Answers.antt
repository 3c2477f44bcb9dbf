use Rattle.ganswer.specs.LsAnswers.{unborn_of}
use Rattle.gserver.proofs.RefLemmas.{unborn_said}
use Rattle.gserver.proofs.ref_lines.say_unborn.Goals as goal

pub returns-in-Some : goal.returns-in-Some
returns-in-Some g c =
    unborn_said c.in-Some.target.now c.as_bytes.result.now c.args.out.now c.put_text.new.self (unborn_of c.args.server.now c.args.asked.now.asked)
    c.as_bytes.ensures.bytes c.in-Some.ensures c.put_text.ensures
