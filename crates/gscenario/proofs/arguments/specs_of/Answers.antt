use Rattle.grefs.specs.Refspecs.{IsSpec}
use Rattle.gscenario.specs.steps.Reading.{words_after}
use Rattle.gscenario.proofs.ArgumentLemmas.{bad_spec, reads_more, reads_wrong}
use Rattle.gscenario.proofs.arguments.specs_of.Goals as goal

pub returns-in-Err-BadSpec : goal.returns-in-Err-BadSpec
returns-in-Err-BadSpec g c = λ specs are.
    reads_wrong IsSpec (words_after c.args.tail.now) (words_after c.loop-next.rest.now)
    (words_after c.in-Some.next.1.now) c.loop-next.specs.items
    c.in-Some.next.0.now c.loop-next.invariant c.in-Some.ensures
    (bad_spec c.in-Some.next.0.now c.in-Err-BadSpec.field-0 c.in-Err-BadSpec.ensures c.in-Err-BadSpec.field-0-is)
    specs are.1

pub loop-next-preserved : goal.loop-next-preserved
loop-next-preserved g c =
    reads_more IsSpec (words_after c.args.tail.now) (words_after c.loop-next.rest.now)
    (words_after c.in-Some.next.1.now) c.loop-next.specs.items
    c.push.new.self.items c.in-Some.next.0.now c.in-Ok.spec c.loop-next.invariant c.in-Some.ensures c.in-Ok.ensures
    c.in_ok-push-in-Ok.ensures.items
