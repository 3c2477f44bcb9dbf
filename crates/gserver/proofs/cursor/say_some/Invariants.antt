use Rattle.gserver.specs.steps.Stepping.{HasSaid}
use Rattle.gserver.proofs.cursor.say_some.Given as goal

abbrev pub invariant-loop-steps : goal.invariant-loop-steps
invariant-loop-steps g l =
    HasSaid (g.C.Cursor.may l.fn.cursor) (g.C.Cursor.may l.cursor)
    (g.C.Cursor.steps l.fn.cursor) (g.C.Cursor.steps l.cursor) l._steps l.out
