use Rattle.gitrefs.proofs.PackedLemmas.{no_peeled_end, no_peeled_id}
use Rattle.gitrefs.proofs.packed.cut_peeled.Goals as goal

pub returns-in_default-cut_id-clause-line : goal.returns-in_default-cut_id-clause-line
returns-in_default-cut_id-clause-line c =
    no_peeled_id c.args.text.now c.in-Some.line.now c.in-Some.ensures c.in_default-cut_id.ensures

pub returns-in-None-clause-line : goal.returns-in-None-clause-line
returns-in-None-clause-line c =
    no_peeled_end c.args.text.now c.in-Some.line.now c.in-Some-cut_id.id.1.now c.in-Some-cut_id.id.0 c.in-Some.ensures c.in-Some-cut_id.ensures c.in-None.ensures
