use Rattle.std.proofs.Common.{sym}
use Rattle.gitprogram.proofs.fetching.receive_with.Goals as goal

pub returns-in-Ok-clause-grows : goal.returns-in-Ok-clause-grows
returns-in-Ok-clause-grows g c = rw (sym c.in-Ok.ensures.graph) c.receive_into.ensures.grows
