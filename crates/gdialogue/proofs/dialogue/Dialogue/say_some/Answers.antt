use Rattle.gdialogue.proofs.Steps.{hears_next, says_last}
use Rattle.gdialogue.proofs.dialogue.Dialogue.say_some.Goals as goal

pub returns-in-Whole-clause-said : goal.returns-in-Whole-clause-said
returns-in-Whole-clause-said g c =
    hears_next g.S.Side.judge g.S.Side.brings g.S.Side.opens g.S.Side.answers g.S.Side.refuses g.S.Side.hears g.R.Reply.may
    c.args.self.now.side c.message.result _ _ _ _ c.say.ensures.says c.in-Whole.is c.message.ensures
    (c.grammars_are_exact.ensures (g.S.Side.judge c.args.self.now.side))

pub returns-in-Last-clause-said : goal.returns-in-Last-clause-said
returns-in-Last-clause-said g c =
    says_last g.S.Side.judge g.S.Side.brings g.S.Side.opens g.S.Side.answers g.S.Side.refuses g.S.Side.hears g.R.Reply.may
    c.args.self.now.side _ _ _ _ c.say.ensures.says c.in-Last.is
