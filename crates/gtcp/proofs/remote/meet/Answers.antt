use Rattle.std.proofs.Common.{inl, inr, refl}
use Rattle.gtcp.proofs.remote.meet.Goals as goal

pub returns-in-Ok : goal.returns-in-Ok
returns-in-Ok g c = (c.meet_client.ensures.0 c.args.pair.now.client.now c.in-Ok.ensures, c.meet_client.ensures.1)

pub returns-in-Err : goal.returns-in-Err
returns-in-Err g c = (inr (c.in-Err.fault, inl c.in-Err.ensures, refl, record { written = refl; passed_on = refl; down = refl }), refl)
