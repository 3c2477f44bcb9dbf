use Rattle.std.proofs.Common.{Ok, ap, ◌∙◌, arith}
use Rattle.gdialogue.proofs.Steps.{answers_last, answers_message, goes_on_hearing, refuses_packet}
use Rattle.gdialogue.proofs.dialogue.Dialogue.hear_packet.Goals as goal

pub returns-in-Ok-Open-clause-heard : goal.returns-in-Ok-Open-clause-heard
returns-in-Ok-Open-clause-heard g c = λ talk h.
    let counts = c.saturating_add.ensures in
    goes_on_hearing g.S.Side.judge g.S.Side.brings g.S.Side.opens g.S.Side.answers g.S.Side.refuses g.S.Side.hears g.R.Reply.may
    c.args.self.now.side c.args.message c.hear.new.message c.args.frame c.saturating_add.result _ c.hear.result c.grammars_are_exact.ensures
    c.hear.ensures (c.in-Ok-Open.is ∙ ap (λ x. Ok x) c.in-Ok-Open.field-0-is)
    (c.laws.ensures c.args.self.now.side) (λ few. omega (arith, counts, few)) talk h

pub returns-in-GoesOn-clause-heard : goal.returns-in-GoesOn-clause-heard
returns-in-GoesOn-clause-heard g c = λ talk h.
    answers_message g.S.Side.judge g.S.Side.brings g.S.Side.opens g.S.Side.answers g.S.Side.refuses g.S.Side.hears g.R.Reply.may
    c.args.self.now.side c.answer.new.self c.args.message c.hear.new.message c.args.frame _ c.hear.result c.answer.result c.in-GoesOn.reply
    c.hear.ensures (c.in-Ok-Whole.is ∙ ap (λ x. Ok x) c.in-Ok-Whole.field-0-is) c.answer.ensures.answers c.in-GoesOn.is talk h

pub returns-in-Last-clause-heard : goal.returns-in-Last-clause-heard
returns-in-Last-clause-heard g c = λ talk h.
    answers_last g.S.Side.judge g.S.Side.brings g.S.Side.opens g.S.Side.answers g.S.Side.refuses g.S.Side.hears g.R.Reply.may
    c.args.self.now.side c.answer.new.self c.args.message c.hear.new.message c.args.frame _ c.hear.result c.answer.result c.in-Last.reply
    c.hear.ensures (c.in-Ok-Whole.is ∙ ap (λ x. Ok x) c.in-Ok-Whole.field-0-is) c.answer.ensures.answers c.in-Last.is talk h

pub returns-in-Err-clause-heard : goal.returns-in-Err-clause-heard
returns-in-Err-clause-heard g c = λ talk h.
    refuses_packet g.S.Side.judge g.S.Side.brings g.S.Side.opens g.S.Side.answers g.S.Side.refuses g.S.Side.hears g.R.Reply.may
    c.args.self.now.side c.refuse.new.self c.args.message c.hear.new.message c.args.frame _ c.hear.result c.in-Err.why c.refuse.result
    c.hear.ensures c.in-Err.is c.refuse.ensures talk h
