use Rattle.gfetch.proofs.ListingLemmas.{list_is_short}
use Rattle.gfetch.proofs.listing.ListSideSideListHeardClientReply.laws.Goals as goal

pub returns : goal.returns
returns g c = λ side front goes. list_is_short side.stage front goes
