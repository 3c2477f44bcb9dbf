use Rattle.glsreply.proofs.LineLemmas.{parts-at, parts-one}
use Rattle.glsreply.proofs.line.cut.Goals as goal

pub returns-in-Some-clause-parts : goal.returns-in-Some-clause-parts
returns-in-Some-clause-parts c = parts-at c.args.text.now c.in-Some.at c.in-Some.ensures.place

pub returns-in-None-clause-parts : goal.returns-in-None-clause-parts
returns-in-None-clause-parts c = parts-one c.args.text.now c.in-None.ensures.place
