use Rattle.gscenario.specs.steps.Reading.{words_after}
use Rattle.gscenario.proofs.ArgumentLemmas.{no_second_count}
use Rattle.gscenario.proofs.arguments.number_and_count.Goals as goal

pub returns-in-None-count_of : goal.returns-in-None-count_of
returns-in-None-count_of c =
    no_second_count (words_after c.args.tail.now) c.in-Some.text.now c.in-Some.bytes.now c.in-Some.ensures
    c.in-None-count_of.ensures
