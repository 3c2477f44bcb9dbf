use Rattle.gscenario.specs.steps.Reading.{words_after}
use Rattle.gscenario.proofs.ArgumentLemmas.{bytes_reads}
use Rattle.gscenario.proofs.arguments.bytes_alone.Goals as goal

pub returns-in-Some : goal.returns-in-Some
returns-in-Some g c =
    bytes_reads (words_after c.args.tail.now) c.in-Some.text.now c.bytes_of.result c.in-Some.ensures c.bytes_of.ensures
