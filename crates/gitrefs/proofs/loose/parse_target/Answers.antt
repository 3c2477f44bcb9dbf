use Rattle.std.proofs.Common.{sym, ◌∙◌}
use Rattle.std.proofs.lemmas.Bool.{false≢true}
use Rattle.gitrefs.proofs.LooseLemmas.{bad_name, more_words}
use Rattle.gitrefs.proofs.loose.parse_target.Goals as goal

pub returns-then-not-is_blank : goal.returns-then-not-is_blank
returns-then-not-is_blank g c has =
    let blank = c.skip_blank.ensures in let cut = c.cut_word.ensures in
    more_words c.args.text.now c.skip_blank.result.0.now c.skip_blank.result.1.now c.cut_word.result.0.now c.cut_word.result.1.now
    blank.parts blank.blank blank.stops cut.parts cut.word cut.ends c.names_are_clean.ensures
    (λ is. false≢true (sym c.if-not-is_blank.true ∙ c.is_blank.ensures.1 is)) has.0 has.1

pub returns-in-Ok-None : goal.returns-in-Ok-None
returns-in-Ok-None g c has =
    let blank = c.skip_blank.ensures in let cut = c.cut_word.ensures in
    let none = rw c.in-Ok-None.field-0-is at c.in-Ok-None.ensures in
    bad_name c.args.text.now c.skip_blank.result.0.now c.skip_blank.result.1.now c.cut_word.result.0.now c.cut_word.result.1.now
    blank.parts blank.blank blank.stops cut.parts cut.word cut.ends c.names_are_clean.ensures none has.0 has.1
