use Rattle.std.proofs.Common.{rules}
use Rattle.gserver.proofs.SayLemmas.{has_more, said_all, said_more}
use Rattle.gserver.proofs.cursor.say_some.Goals as goal

pub returns-then-not-has_room-clause-says : goal.returns-then-not-has_room-clause-says
returns-then-not-has_room-clause-says g c =
    let m = said_more _ _ _ _ _ _ _ c.loop-steps.invariant _ _ c.in-More.ensures in
    record { said = m.said; spelt = m.spelt; leads = m.goes_on }

pub returns-in-Whole-clause-says : goal.returns-in-Whole-clause-says
returns-in-Whole-clause-says g c =
    let m = said_all _ _ _ _ _ _ _ c.loop-steps.invariant _ c.in-Whole.ensures in
    record { said = m.said; spelt = m.spelt; leads = m.all }

pub returns-in-Last-clause-says : goal.returns-in-Last-clause-says
returns-in-Last-clause-says g c =
    let m = said_all _ _ _ _ _ _ _ c.loop-steps.invariant _ c.in-Last.ensures in
    record { said = m.said; spelt = m.spelt; leads = m.all }

pub loop-steps-preserved : goal.loop-steps-preserved
loop-steps-preserved g c =
    has_more _ _ _ _ _ _ _ c.loop-steps.invariant _ _ c.in-More.ensures
    (c.if-not-has_room.ensures.room (search rules))
