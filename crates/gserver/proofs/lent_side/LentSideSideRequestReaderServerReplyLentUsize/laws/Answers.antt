use Rattle.ggrammar.specs.Limits.{profile}
use Rattle.grequest.proofs.WholeRequests.{open_is_short}
use Rattle.gserver.proofs.lent_side.LentSideSideRequestReaderServerReplyLentUsize.laws.Goals as goal

pub returns : goal.returns
returns g c = λ side front goes. open_is_short c.grammars_are_exact.ensures profile side.server.now.graph.format front goes
