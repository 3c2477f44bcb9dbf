use Rattle.gwalk.proofs.Marking.{marks_more, connected_more}
use Rattle.gwalk.proofs.Reached.{marks_reached}
use Rattle.gwalk.proofs.marks.mark_connected.Goals as goal

pub returns-clause-marked : goal.returns-clause-marked
returns-clause-marked g c =
    let reached = marks_reached c.args.graph.now.entries c.args.ids.now c.in_ok-walk.walk.marks.items c.in_ok-walk.walk.met.items c.in_ok-walk.walk.missing c.in_ok-walk.walk.parent_count c.in_ok-walk.ensures.graph.differ c.in_ok-walk.ensures.walk in
    let are = rw c.as_slice.ensures at c.in_ok-marks-inside.ensures in
    marks_more c.args.graph.now.entries c.args.ids.now _ _ c.in_ok-walk.walk.marks.items reached are

pub returns-clause-connected : goal.returns-clause-connected
returns-clause-connected g c =
    let reached = marks_reached c.args.graph.now.entries c.args.ids.now c.in_ok-walk.walk.marks.items c.in_ok-walk.walk.met.items c.in_ok-walk.walk.missing c.in_ok-walk.walk.parent_count c.in_ok-walk.ensures.graph.differ c.in_ok-walk.ensures.walk in
    let are = rw c.as_slice.ensures at c.in_ok-marks-inside.ensures in
    connected_more c.args.graph.now.entries c.args.ids.now _ _ c.requires (marks_more c.args.graph.now.entries c.args.ids.now _ _ c.in_ok-walk.walk.marks.items reached are)
