use Rattle.gdialogue.proofs.Steps.{begins}
use Rattle.gdialogue.proofs.dialogue.Dialogue.new.Goals as goal

pub returns-clause-holds : goal.returns-clause-holds
returns-clause-holds g c =
    begins g.S.Side.judge g.S.Side.brings g.S.Side.opens g.S.Side.answers g.S.Side.refuses g.S.Side.hears g.R.Reply.may
    c.args.side c.message-message.result c.message-message.ensures
    (c.grammars_are_exact.ensures (g.S.Side.judge c.args.side))
