use Rattle.gitrefs.proofs.Cutting.{no_id}
use Rattle.gitrefs.proofs.words.cut_id.Goals as goal

pub returns-in-Err : goal.returns-in-Err
returns-in-Err c =
    no_id c.args.text.now c.in-Some.digits.now c.in-Some.rest.now c.in-Some.ensures.0 c.in-Some.ensures.1 c.in-Err.field-0 c.texts_have_one_reading.ensures c.in-Err.ensures
