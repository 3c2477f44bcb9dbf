use Rattle.std.proofs.Common.{sym, ◌∙◌, arith}
use Rattle.std.proofs.lemmas.Bool.{false≢true}
use Rattle.gitobject.proofs.Words.{no_type, other_length}
use Rattle.gitobject.proofs.loose.split_loose.Goals as goal

pub returns-in_default-from_name : goal.returns-in_default-from_name
returns-in_default-from_name c =
    no_type c.args.text.now c.in-Some.word.now c.in-Some.after_word.now c.in-Some.ensures.0 c.in-Some.ensures.1 c.in_default-from_name.ensures

pub returns-else-is_decimal : goal.returns-else-is_decimal
returns-else-is_decimal c =
    other_length c.args.text.now c.in-Some.word.now c.in-Some.after_word.now c.in-Some.ensures.0 c.in-Some.ensures.1 c.in-Some-cut.digits.now c.in-Some-cut.body.now
    c.in-Some-cut.ensures.0 c.in-Some-cut.ensures.1 (omega arith) (λ is. false≢true (sym c.if-is_decimal.false ∙ c.is_decimal.ensures.1 is))
