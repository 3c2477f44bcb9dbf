use Rattle.gitrefs.proofs.PackedLemmas.{no_name, no_peeled, no_space}
use Rattle.gitrefs.proofs.packed.cut_ref.Goals as goal

pub returns-in_default-clause-line : goal.returns-in_default-clause-line
returns-in_default-clause-line c line rest b = c.in_default.ensures line.id b.1.after_id b.1.id

pub returns-in_default-strip-clause-line : goal.returns-in_default-strip-clause-line
returns-in_default-strip-clause-line c =
    no_space c.args.text.now c.in-Some.id.1.now c.in-Some.id.0 c.in-Some.ensures c.in_default-strip.ensures

pub returns-in_default-cut_line-clause-line : goal.returns-in_default-cut_line-clause-line
returns-in_default-cut_line-clause-line c =
    no_name c.args.text.now c.in-Some.id.1.now c.in-Some.id.0 c.in-Some.ensures c.in-Some-strip.after_space.now c.in-Some-strip.ensures c.in_default-cut_line.ensures

pub returns-in_default-cut_peeled-clause-line : goal.returns-in_default-cut_peeled-clause-line
returns-in_default-cut_peeled-clause-line c =
    let cut = c.in-Some-cut_line in
    no_peeled c.args.text.now c.in-Some.id.1.now c.in-Some.id.0 c.in-Some.ensures c.in-Some-strip.after_space.now c.in-Some-strip.ensures
    cut.name.now cut.next.now cut.ensures.0 cut.ensures.1 c.in_default-cut_peeled.ensures.line
