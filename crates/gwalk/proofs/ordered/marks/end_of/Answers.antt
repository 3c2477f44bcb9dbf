use Rattle.std.proofs.Common.{◌∙◌, ◌+◌, inl, inr, sym, arith}
use Rattle.std.proofs.lemmas.Option.{none-some}
use Rattle.std.proofs.lemmas.List.{take_all}
use Rattle.gdag.proofs.Reaching.{position_inside}
use Rattle.gwalk.proofs.Positions.{one_position, is_none, max_is, position_next}
use Rattle.gwalk.proofs.ordered.marks.end_of.Goals as goal
use Rattle.gwalk.proofs.ordered.marks.end_of.Goals.{in-Some, in_default}

pub overflow_add-position : goal.overflow_add-position
overflow_add-position g c =
    let inside = position_inside c.args.graph.now.entries c.id-item.result c.in-Some.position (sym c.in-Some.ensures) in
    omega arith

pub loop-id-preserved : goal.loop-id-preserved
loop-id-preserved g c =
    let held = c.args.graph.now.entries in
    let ids = c.args.ids.now in
    let before = c.loop-id.invariant in
    elim c.match-position.branch [
      | in-Some w ↦
          let at = sym w.in-Some.ensures in
          let inside = position_inside held c.id-item.result w.in-Some.position at in
          let most = max_is c.loop-id.end (w.in-Some.position + 1) w.max-end.result w.max-end.ensures in
          rw w.end-is (record {
            below = λ p x. elim (position_next held ids c.loop-id.id-index c.id-item.result c.loop-id-test.true c.id-item.is p x) [
              | inl y ↦ (let h = before.below p y in omega arith)
              | inr e ↦ (let same = one_position held c.id-item.result p w.in-Some.position e at in omega arith)
            ];
            fits = omega arith;
          })
      | in_default w ↦
          let absent = sym c.position.ensures ∙ is_none c.position.result w.in_default.not-Some in
          rw w.end-is (record {
            below = λ p x. elim (position_next held ids c.loop-id.id-index c.id-item.result c.loop-id-test.true c.id-item.is p x) [
              | inl y ↦ before.below p y
              | inr e ↦ absurd (none-some p (sym absent ∙ e))
            ];
            fits = before.fits;
          })
    ]

pub returns-clause-below : goal.returns-clause-below
returns-clause-below g c =
    rw (take_all c.loop-id.id-index c.args.ids.now (omega arith)) at c.loop-id.invariant.below
