use Rattle.gitrefs.proofs.PackedLemmas.{header_cut, no_words}
use Rattle.gitrefs.proofs.packed.after_header.Goals as goal

pub returns-in_default-strip : goal.returns-in_default-strip
returns-in_default-strip c = no_words c.args.text.now c.in_default.field-0.now c.in_default.ensures c.in_default-strip.ensures

pub returns-in-Some-cut_line : goal.returns-in-Some-cut_line
returns-in-Some-cut_line c =
    let cut = c.in-Some-cut_line in
    header_cut c.args.text.now c.in-Some.words.now cut.field-0-0.now cut.rest.now c.in-Some.ensures cut.ensures.0 cut.ensures.1
