use Rattle.gwalk.proofs.Reached.{nothing_connected}
use Rattle.gwalk.proofs.marks.ConnectedMarks.new.Goals as goal

pub returns-clause-connected : goal.returns-clause-connected
returns-clause-connected g c = λ h. rw c.new.ensures.items (nothing_connected h)
