use Rattle.std.proofs.Common.{inl, inr, refl}
use Rattle.gtcp.proofs.remote.list_remote.Goals as goal

pub returns-in-Ok : goal.returns-in-Ok
returns-in-Ok g c = (inl (c.in-Ok.reply, c.in-Ok.ensures, c.show_reply.ensures.0), c.show_reply.ensures.1)

pub returns-in-Err : goal.returns-in-Err
returns-in-Err g c =
    (inr (c.in-Err.fault, c.in-Err.ensures, refl, record { written = refl; passed_on = refl; down = refl }), refl)
