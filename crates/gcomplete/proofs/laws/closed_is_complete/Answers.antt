use Rattle.gcomplete.proofs.Closing.{closed_complete}
use Rattle.gcomplete.proofs.laws.closed_is_complete.Goals as goal

pub returns : goal.returns
returns c = closed_complete
