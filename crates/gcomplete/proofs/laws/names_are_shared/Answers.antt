use Rattle.gcomplete.proofs.Names.{names_shared}
use Rattle.gcomplete.proofs.laws.names_are_shared.Goals as goal

pub returns : goal.returns
returns c = names_shared
