use Rattle.std.proofs.Common.{◌∙◌, inl, inr, sym, arith}
use Rattle.std.proofs.lemmas.Option.{none-some}
use Rattle.std.proofs.lemmas.List.{take_all}
use Rattle.gwalk.proofs.Positions.{one_position, is_none, position_next}
use Rattle.gwalk.proofs.ordered.marks.first_of.Goals as goal
use Rattle.gwalk.proofs.ordered.marks.first_of.Goals.{in-Some, in_default}

pub loop-id-preserved : goal.loop-id-preserved
loop-id-preserved g c =
    let held = c.args.graph.now.entries in
    let ids = c.args.ids.now in
    let before = c.loop-id.invariant in
    elim c.match-position.branch [
      | in-Some w ↦
          let at = sym w.in-Some.ensures in
          rw w.first-is (record {
            first = λ p x. elim (position_next held ids c.loop-id.id-index c.id-item.result c.loop-id-test.true c.id-item.is p x) [
              | inl y ↦ (let h = before.first p y in omega arith)
              | inr e ↦ (let same = one_position held c.id-item.result p w.in-Some.position e at in omega arith)
            ];
            most = omega arith;
          })
      | in_default w ↦
          let absent = sym c.position.ensures ∙ is_none c.position.result w.in_default.not-Some in
          rw w.first-is (record {
            first = λ p x. elim (position_next held ids c.loop-id.id-index c.id-item.result c.loop-id-test.true c.id-item.is p x) [
              | inl y ↦ before.first p y
              | inr e ↦ absurd (none-some p (sym absent ∙ e))
            ];
            most = before.most;
          })
    ]

pub returns-clause-first : goal.returns-clause-first
returns-clause-first g c =
    rw (take_all c.loop-id.id-index c.args.ids.now (omega arith)) at c.loop-id.invariant.first
