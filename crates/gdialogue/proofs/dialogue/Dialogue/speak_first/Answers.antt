use Rattle.gdialogue.proofs.Steps.{opens_with}
use Rattle.gdialogue.proofs.dialogue.Dialogue.speak_first.Goals as goal

pub returns-clause-holds : goal.returns-clause-holds
returns-clause-holds g c =
    opens_with g.S.Side.judge g.S.Side.brings g.S.Side.opens g.S.Side.answers g.S.Side.refuses g.S.Side.hears g.R.Reply.may
    c.args.side c.args.reply
