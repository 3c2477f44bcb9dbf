use Rattle.std.proofs.Common.{inl, inr, refl}
use Rattle.gcmd.proofs.fetch.conclude.Goals as goal

pub returns-in-Ok-clause-concludes : goal.returns-in-Ok-clause-concludes
returns-in-Ok-clause-concludes g c = λ before into. inl ((c.in-Ok.ensures, into), c.send_report.ensures.reports)

pub returns-in-Err-clause-concludes : goal.returns-in-Err-clause-concludes
returns-in-Err-clause-concludes g c = λ before into. inr (refl, record { written = refl; passed_on = refl; down = refl }, refl)
