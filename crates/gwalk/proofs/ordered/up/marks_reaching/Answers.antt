use Rattle.std.proofs.Common.{◌∙◌, sym}
use Rattle.std.proofs.lemmas.Bool.{false≢true}
use Rattle.gwalk.proofs.Rising.{rising_begins, rising_marks, rising_passes}
use Rattle.gwalk.proofs.ordered.up.marks_reaching.Goals as goal
use Rattle.gwalk.proofs.ordered.up.marks_reaching.Goals.{then-has_marked, else-has_marked}

pub loop-position-init : goal.loop-position-init
loop-position-init g c =
    let marks = rw c.in_ok-good.ensures.marks at c.mark_all.ensures in
    rising_begins c.args.graph.now.entries c.args.goals.now c.args.end c.requires.order c.first_of-position.result c.mark_all.new.marks.items marks c.first_of-position.ensures.first

pub loop-position-preserved : goal.loop-position-preserved
loop-position-preserved g c =
    let held = c.args.graph.now.entries in
    let has = rw c.as_slice.ensures.value at c.has_marked.ensures in
    elim c.if-has_marked.branch [
      | then-has_marked w ↦
          rw w.good-is (rising_marks held c.args.goals.now c.args.end c.requires.order c.loop-position.position c.loop-position.good.items c.loop-position.invariant c.loop-position-test.true c.requires.inside c.parents.result.now c.parents.ensures (has.0 w.if-has_marked.true))
      | else-has_marked w ↦
          rw w.good-is (rising_passes held c.args.goals.now c.args.end c.requires.order c.loop-position.position c.loop-position.good.items c.loop-position.invariant c.loop-position-test.true c.requires.inside c.parents.result.now c.parents.ensures (λ m. false≢true (sym w.if-has_marked.false ∙ has.1 m)))
    ]
