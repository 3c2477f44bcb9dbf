use Rattle.std.proofs.Common.{refl}
use Rattle.gworld.proofs.parts.Parts.new_session.Goals as goal

pub introduce-requires : goal.introduce-requires
introduce-requires g c = rw c.in_ok-session.ensures.1 (refl, refl)

pub returns-in-Err : goal.returns-in-Err
returns-in-Err g c = rw c.in-Err.ensures c.in_ok-session.ensures.0
