use Rattle.gscenario.specs.steps.Reading.{words_after}
use Rattle.gname.specs.Ids.{IsIdText}
use Rattle.gscenario.proofs.ArgumentLemmas.{reads_more, reads_wrong}
use Rattle.gscenario.proofs.arguments.parents_of.Goals as goal

pub returns-in-None : goal.returns-in-None
returns-in-None g c =
    reads_wrong IsIdText (words_after c.args.tail.now) (words_after c.loop-next.rest.now)
    (words_after c.in-Some.next.1.now) c.loop-next.parents
    c.in-Some.next.0.now c.loop-next.invariant c.in-Some.ensures c.in-None.ensures

pub loop-next-preserved : goal.loop-next-preserved
loop-next-preserved g c =
    reads_more IsIdText (words_after c.args.tail.now) (words_after c.loop-next.rest.now)
    (words_after c.in-Some.next.1.now) c.loop-next.parents
    c.push.new.self c.in-Some.next.0.now c.in-Some-id_of.id c.loop-next.invariant c.in-Some.ensures
    c.in-Some-id_of.ensures
    c.in_ok-push-in-Some-id_of.ensures.ok
