use Rattle.std.proofs.Common.{subst}
use Rattle.gdialogue.proofs.Steps.{refuses_stop}
use Rattle.gdialogue.proofs.dialogue.Dialogue.refuse.Goals as goal

pub returns-clause-stopped : goal.returns-clause-stopped
returns-clause-stopped g c = λ talk h.
    refuses_stop g.S.Side.judge g.S.Side.brings g.S.Side.opens g.S.Side.answers g.S.Side.refuses g.S.Side.hears g.R.Reply.may
    c.args.self.now.side c.refuse.new.self c.args.message c.args.frame c.args.why c.refuse.result
    (λ said goes may. subst (λ w. g.S.Side.refuses c.args.self.now.side (record { frame = c.args.frame; why = w }) said c.refuse.new.self)
    c.reason_of-why.ensures (c.refuse.ensures said goes may))
    talk h
