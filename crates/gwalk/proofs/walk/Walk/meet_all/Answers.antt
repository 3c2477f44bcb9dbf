use Rattle.std.proofs.Common.{take, append-nil, arith}
use Rattle.std.proofs.lemmas.List.{take_all}
use Rattle.gdag.proofs.IdLists.{with_new}
use Rattle.gwalk.proofs.Walking.{with_one_more}
use Rattle.gwalk.proofs.walk.Walk.meet_all.Goals as goal

pub loop-id-init : goal.loop-id-init
loop-id-init g c = λ before h. rw (append-nil before) h

pub meet-requires-clause-has : goal.meet-requires-clause-has
meet-requires-clause-has g c =
    let b = c.requires.has in (with_new b.0 (take c.loop-id.id-index c.args.ids.now), c.loop-id.invariant b.0 b.1)

pub loop-id-preserved : goal.loop-id-preserved
loop-id-preserved g c = λ before h.
    rw (with_one_more before c.args.ids.now c.loop-id.id-index c.id-item.result c.loop-id-test.true c.id-item.is)
    (c.in_ok-meet.ensures (with_new before (take c.loop-id.id-index c.args.ids.now)) (c.loop-id.invariant before h))

pub returns : goal.returns
returns g c = λ before h.
    rw (take_all c.loop-id.id-index c.args.ids.now (omega arith)) at (c.loop-id.invariant before h)
