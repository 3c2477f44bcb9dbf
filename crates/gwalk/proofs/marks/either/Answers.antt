use Rattle.std.proofs.Common.{◌≡◌, ◌≤◌, true, false, Bool, ◌||◌, length, refl, sym, ◌∙◌, arith}
use Rattle.std.proofs.lemmas.List.{get_or_past}
use Rattle.std.proofs.lemmas.Bool.{or_right}
use Rattle.gwalk.proofs.Marking.{join_begins, join_grows, join_sets, join_stays, join_ends}
use Rattle.gwalk.proofs.marks.either.Goals as goal
use Rattle.gwalk.proofs.marks.either.Goals.{then-position-len+in_ok-push, else-position-len+then-mark, else-position-len+else-mark}

or_false : (b : Bool) → (b || false) ≡ b
or_false b = search (arith)

pub loop-position-init : goal.loop-position-init
loop-position-init g c = join_begins ◌||◌ c.args.reached.items c.args.old.now

pub loop-position-preserved : goal.loop-position-preserved
loop-position-preserved g c =
    let xs = c.args.reached.items in
    let old = c.args.old.now in
    let i = c.loop-position.position in
    let marks = c.loop-position.marks.items in
    let now = c.loop-position.invariant in
    elim c.if-position-len.branch [
      | then-position-len+in_ok-push w ↦
          let end : length marks ≤ i = omega arith in
          let free = sym (now.left i (omega arith)) ∙ get_or_past marks i false end in
          rw (w.marks-is, w.in_ok-push.ensures.items) (join_grows ◌||◌ xs old marks i now _ end (rw free refl))
      | else-position-len+then-mark w ↦
          rw w.marks-is (join_sets ◌||◌ xs old marks i now true (omega arith) (sym (or_right _ _ w.if-mark.true)))
      | else-position-len+else-mark w ↦
          rw w.marks-is (join_stays ◌||◌ xs old marks i now (omega arith) (rw w.if-mark.false (sym (or_false _))))
    ]

pub returns : goal.returns
returns g c = join_ends ◌||◌ c.args.reached.items c.args.old.now c.loop-position.marks.items c.loop-position.position c.loop-position.invariant or_false (omega arith)
