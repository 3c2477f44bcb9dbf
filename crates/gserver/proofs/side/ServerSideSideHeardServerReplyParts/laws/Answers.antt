use Rattle.gserver.proofs.SideLemmas.{open_is_short}
use Rattle.gserver.proofs.side.ServerSideSideHeardServerReplyParts.laws.Goals as goal

pub returns : goal.returns
returns g c = λ side front goes.
    open_is_short g.R.ServedRepository.server c.grammars_are_exact.ensures side.limits side.repo front goes
