use Rattle.std.proofs.Common.{Err, ap, inr}
use Rattle.gtcp.proofs.fetching.ls_on.Goals as goal

pub returns-in-Err-new : goal.returns-in-Err-new
returns-in-Err-new g c = inr (c.in-Err-new.fault, inr c.in-Err-new.ensures, ap (λ fault. Err fault) c.from-in-Err-new.ensures)
