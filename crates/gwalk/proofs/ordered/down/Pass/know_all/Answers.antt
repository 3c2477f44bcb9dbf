use Rattle.std.proofs.Common.{◌∙◌, sym, arith}
use Rattle.gwalk.proofs.Positions.{is_none, item_position, marks_next, marks_past}
use Rattle.gwalk.proofs.ordered.down.Pass.know_all.Goals as goal
use Rattle.gwalk.proofs.ordered.down.Pass.know_all.Goals.{in-Some, in_default}

pub know-requires-clause-below : goal.know-requires-clause-below
know-requires-clause-below g c =
    let at = item_position _ _ _ _ c.loop-id-test.true c.id-item.is c.in-Some.position (sym c.in-Some.ensures) in
    let h = c.requires.below c.in-Some.position at in
    omega (arith, c.loop-id.invariant.next)

pub loop-id-preserved : goal.loop-id-preserved
loop-id-preserved g c =
    let held = c.args.graph.now.entries in
    let ids = c.args.ids.now in
    let before = c.loop-id.invariant in
    elim c.match-position.branch [
      | in-Some w ↦
          let marks = marks_next held ids c.loop-id.id-index c.id-item.result c.loop-id-test.true c.id-item.is c.args.self.now.known.items c.loop-id.self.known.items w.in-Some.position before.known (sym w.in-Some.ensures) in
          rw w.self-is (record {
            counted = w.know.ensures.counted;
            known = rw w.know.ensures.known marks;
            wanted = w.know.ensures.wanted ∙ before.wanted;
            next = w.know.ensures.next ∙ before.next;
          })
      | in_default w ↦
          let absent = sym c.position.ensures ∙ is_none c.position.result w.in_default.not-Some in
          rw w.self-is (record {
            counted = before.counted;
            known = marks_past held ids c.loop-id.id-index c.id-item.result c.loop-id-test.true c.id-item.is c.args.self.now.known.items c.loop-id.self.known.items before.known absent;
            wanted = before.wanted;
            next = before.next;
          })
    ]
