use Rattle.gpair.proofs.JoinLemmas.{hears_nothing}
use Rattle.gpair.proofs.joining.hear_from.Goals as goal

pub returns-then-is_err-clause-hears : goal.returns-then-is_err-clause-hears
returns-then-is_err-clause-hears g c =
    hears_nothing g.C.Conversation.holds g.C.Conversation.turn _ _ _ c.receive_failure.ensures.goes
