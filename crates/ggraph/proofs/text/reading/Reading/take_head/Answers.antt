use Rattle.std.proofs.Common.{refl}
use Rattle.std.proofs.lemmas.Result.{err_from_is_err_and}
use Rattle.ggraph.specs.steps.Reading.{heads}
use Rattle.ggraph.proofs.ReadingLemmas.{symref_short}
use Rattle.ggraph.proofs.text.reading.Reading.take_head.Goals as goal

pub returns-in-Some-clause-ok : goal.returns-in-Some-clause-ok
returns-in-Some-clause-ok g c order =
    let facts = rw (c.in-Some.is, c.format.ensures) at c.in_ok-head.ensures in
    (heads c.in-Some.head, facts.0, (c.requires.stage, facts.1), refl)

pub returns-in_err-head-clause-refused : goal.returns-in_err-head-clause-refused
returns-in_err-head-clause-refused g c order =
    let p = err_from_is_err_and c.from_residual.result c.from_residual.ensures.1 in
    rw (p.1, p.2) (symref_short order c.args.self.now c.args.line.now c.args.number c.requires.stage c.in_err-head.ensures)
