use Rattle.gfetch.proofs.HeardLemmas.{open_is_short}
use Rattle.gfetch.proofs.side.ClientSideSideHeardFeedClientReply.laws.Goals as goal

pub returns : goal.returns
returns g c = λ side front goes. open_is_short side.client.session side.client.session.pending front goes
