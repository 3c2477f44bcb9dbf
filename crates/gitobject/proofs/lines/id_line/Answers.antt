use Rattle.gitobject.proofs.Heads.{no_newline, no_id}
use Rattle.gitobject.proofs.lines.id_line.Goals as goal

pub returns-in_default-strip-clause-line : goal.returns-in_default-strip-clause-line
returns-in_default-strip-clause-line c =
    no_newline c.args.word.now c.args.text.now c.in-Some.after.now c.in-Some-split_front.digits.now c.in-Some-split_front.end.now
    c.in-Some.ensures c.in-Some-split_front.ensures.0 c.in-Some-split_front.ensures.1 c.in_default-strip.ensures

pub returns-in-Err-clause-line : goal.returns-in-Err-clause-line
returns-in-Err-clause-line c =
    no_id c.args.word.now c.args.text.now c.in-Some.after.now c.in-Some-split_front.digits.now c.in-Some-split_front.end.now
    c.in-Some.ensures c.in-Some-split_front.ensures.0 c.in-Some-split_front.ensures.1 c.in-Err.field-0 c.texts_have_one_reading.ensures c.in-Err.ensures
