use Rattle.std.proofs.Common.{◌∙◌, sym}
use Rattle.gwalk.proofs.Positions.{is_none, marks_next, marks_past}
use Rattle.gwalk.proofs.ordered.marks.mark_all.Goals as goal
use Rattle.gwalk.proofs.ordered.marks.mark_all.Goals.{in-Some, in_default}

pub loop-id-preserved : goal.loop-id-preserved
loop-id-preserved g c =
    let held = c.args.graph.now.entries in
    let ids = c.args.ids.now in
    elim c.match-position.branch [
      | in-Some w ↦
          let marks = marks_next held ids c.loop-id.id-index c.id-item.result c.loop-id-test.true c.id-item.is c.args.marks.now.items c.loop-id.marks.items w.in-Some.position c.loop-id.invariant (sym w.in-Some.ensures) in
          rw (w.marks-is, w.mark.ensures) marks
      | in_default w ↦
          let absent = sym c.position.ensures ∙ is_none c.position.result w.in_default.not-Some in
          rw w.marks-is (marks_past held ids c.loop-id.id-index c.id-item.result c.loop-id-test.true c.id-item.is c.args.marks.now.items c.loop-id.marks.items c.loop-id.invariant absent)
    ]
