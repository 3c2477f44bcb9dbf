use Rattle.std.proofs.Common.{sym, ◌∙◌, append_assoc, arith}
use Rattle.std.proofs.lemmas.Option.{same_Some}
use Rattle.gwalk.proofs.Positions.{entry_there}
use Rattle.gwalk.proofs.Marking.{marked_next}
use Rattle.gwalk.proofs.sending.entries_at.Goals as goal
use Rattle.gwalk.proofs.sending.entries_at.Goals.{then-mark+in_ok-entry_in+in_ok-push, else-mark}

pub loop-position-preserved : goal.loop-position-preserved
loop-position-preserved g c =
    let held = c.args.graph.now.entries in
    let marks = c.args.marks.now in
    let i = c.loop-position.position in
    let at = entry_there held i (omega (arith, c.requires)) in
    let next = marked_next held marks i at.0 at.1 c.loop-position-test.true in
    elim c.if-mark.branch [
      | then-mark+in_ok-entry_in+in_ok-push w ↦
          let same = same_Some at.0 _ (sym at.1 ∙ w.in_ok-entry_in.ensures) in
          let on = rw (same, w.if-mark.true) at next in
          rw (w.list-is, w.in_ok-push.ensures.items, append_assoc) (rw (sym on) c.loop-position.invariant)
      | else-mark w ↦
          let on = rw w.if-mark.false at next in rw (w.list-is, sym on) c.loop-position.invariant
    ]
