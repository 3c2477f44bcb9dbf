use Rattle.std.proofs.Common.{◌∙◌, sym, arith}
use Rattle.gwalk.proofs.Positions.{is_none, item_position, marks_next, marks_past}
use Rattle.gwalk.proofs.ordered.down.Pass.want_all.Goals as goal
use Rattle.gwalk.proofs.ordered.down.Pass.want_all.Goals.{in-Some, in_default}

pub want-requires-clause-below : goal.want-requires-clause-below
want-requires-clause-below g c =
    let at = item_position _ _ _ _ c.loop-id-test.true c.id-item.is c.in-Some.position (sym c.in-Some.ensures) in
    let h = c.requires.below c.in-Some.position at in
    omega (arith, c.loop-id.invariant.next)

pub loop-id-preserved : goal.loop-id-preserved
loop-id-preserved g c =
    let held = c.args.graph.now.entries in
    let ids = c.args.ids.now in
    let before = c.loop-id.invariant in
    elim c.match-position.branch [
      | in-Some w ↦
          let marks = marks_next held ids c.loop-id.id-index c.id-item.result c.loop-id-test.true c.id-item.is c.args.self.now.wanted.items c.loop-id.self.wanted.items w.in-Some.position before.wanted (sym w.in-Some.ensures) in
          rw w.self-is (record {
            counted = w.want.ensures.counted;
            wanted = rw w.want.ensures.wanted marks;
            known = w.want.ensures.known ∙ before.known;
            next = w.want.ensures.next ∙ before.next;
          })
      | in_default w ↦
          let absent = sym c.position.ensures ∙ is_none c.position.result w.in_default.not-Some in
          rw w.self-is (record {
            counted = before.counted;
            wanted = marks_past held ids c.loop-id.id-index c.id-item.result c.loop-id-test.true c.id-item.is c.args.self.now.wanted.items c.loop-id.self.wanted.items before.wanted absent;
            known = before.known;
            next = before.next;
          })
    ]
