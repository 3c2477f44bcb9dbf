use Rattle.std.proofs.Common.{◌<◌, false, length, sym, ◌∙◌, arith}
use Rattle.std.proofs.lemmas.List.{get_or_read}
use Rattle.gwalk.proofs.Marking.{less, join_begins, join_sets, join_stays, join_ends, less_ends, less_known, less_none}
use Rattle.gwalk.proofs.Reached.{marks_reached}
use Rattle.gwalk.proofs.sending.new_marks.Goals as goal
use Rattle.gwalk.proofs.sending.new_marks.Goals.{then-index, else-index}

pub loop-position-init : goal.loop-position-init
loop-position-init g c = join_begins less c.in_ok-wanted.wanted.marks.items c.in_ok-known.known.marks.items

pub loop-position-preserved : goal.loop-position-preserved
loop-position-preserved g c =
    let w = c.in_ok-wanted.ensures.walk.has_met.long in
    let k = c.in_ok-known.ensures.walk.has_met.long in
    let wanted = c.in_ok-wanted.wanted.marks.items in
    let known = c.in_ok-known.known.marks.items in
    let position = c.loop-position.position in
    let marks = c.loop-position.marks.items in
    let now = c.loop-position.invariant in
    let inside : position < length known = omega (arith, w, k, c.loop-position-test.true) in
    let read = sym (get_or_read known position c.index.result.now inside c.index.ensures false) in
    elim c.if-index.branch [
      | then-index v ↦
          let known_here = less_known _ _ (read ∙ v.if-index.true) in
          rw v.marks-is (join_sets less wanted known marks position now false (omega arith) (sym known_here))
      | else-index v ↦
          let free = read ∙ v.if-index.false in
          rw v.marks-is (join_stays less wanted known marks position now (omega arith) (rw free (sym (less_none _))))
    ]

pub returns-clause-marks : goal.returns-clause-marks
returns-clause-marks g c =
    let w = marks_reached c.args.graph.now.entries c.args.wants.now c.in_ok-wanted.wanted.marks.items c.in_ok-wanted.wanted.met.items c.in_ok-wanted.wanted.missing c.in_ok-wanted.wanted.parent_count c.in_ok-wanted.ensures.graph.differ c.in_ok-wanted.ensures.walk in
    let k = marks_reached c.args.graph.now.entries c.args.commons.now c.in_ok-known.known.marks.items c.in_ok-known.known.met.items c.in_ok-known.known.missing c.in_ok-known.known.parent_count c.in_ok-known.ensures.graph.differ c.in_ok-known.ensures.walk in
    let ends = join_ends less _ _ _ _ c.loop-position.invariant less_none (omega arith) in
    less_ends c.args.graph.now.entries c.args.wants.now c.args.commons.now _ _ _ w k (omega arith) ends
