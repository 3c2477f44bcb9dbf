use Rattle.gcomplete.proofs.Linking.{linked_closed}
use Rattle.gcomplete.proofs.laws.linked_is_closed.Goals as goal

pub returns : goal.returns
returns c = linked_closed
