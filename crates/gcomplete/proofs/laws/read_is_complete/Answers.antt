use Rattle.gcomplete.proofs.Closing.{read_complete}
use Rattle.gcomplete.proofs.laws.read_is_complete.Goals as goal

pub returns : goal.returns
returns c = read_complete
