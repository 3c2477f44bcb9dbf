use Rattle.std.proofs.Common.{◌∙◌, ◌<◌, ◌≤◌, length, sym, arith}
use Rattle.std.proofs.lemmas.Bool.{or_cases, or_parts}
use Rattle.gwalk.specs.steps.Passes.{is_marked, is_open}
use Rattle.gwalk.proofs.Positions.{in_order}
use Rattle.gwalk.proofs.PassSending.{none_so_far, sends_position, drops_position, all_positions}
use Rattle.gwalk.proofs.ordered.send.send_list.Goals as goal
use Rattle.gwalk.proofs.ordered.send.send_list.Goals.{then-is_sent+in_ok-entry_in+in_ok-push, else-is_sent}

pub loop-position-init : goal.loop-position-init
loop-position-init g c =
    let held = c.args.graph.now.entries in
    let order = in_order c.args.graph.now c.is_ordered.ensures.graph c.requires in
    let pass = c.in_ok-pass.pass in
    let fits : pass.next ≤ length held = let i = c.in_ok-pass.ensures.inside.0 in let j = c.in_ok-pass.ensures.inside.1 in omega arith in
    rw c.new-list.ensures.items
    (none_so_far held c.args.wants.now c.args.commons.now c.args.tips.now pass.wanted.items pass.known.items pass.next c.in_ok-pass.ensures.done order c.in_ok-tagged.tagged.items c.in_ok-tagged.ensures.marks fits)

pub entry_in-requires : goal.entry_in-requires
entry_in-requires g c = omega (arith, c.in_ok-pass.ensures.inside.1, c.in_ok-tagged.ensures.inside)

pub loop-position-preserved : goal.loop-position-preserved
loop-position-preserved g c =
    let held = c.args.graph.now.entries in
    let order = in_order c.args.graph.now c.is_ordered.ensures.graph c.requires in
    let pass = c.in_ok-pass.pass in
    let tagged = c.in_ok-tagged.tagged in
    let fits = c.in_ok-pass.ensures.inside.1 in
    let inside : c.loop-position.position < length held = omega (arith, fits, c.in_ok-tagged.ensures.inside) in
    let sent = rw c.as_slice.ensures.value at c.is_sent.ensures in
    let open_there = is_open pass.wanted.items pass.known.items c.loop-position.position in
    let marked = is_marked tagged.items c.loop-position.position in
    elim c.if-is_sent.branch [
      | then-is_sent+in_ok-entry_in+in_ok-push w ↦
          rw (w.list-is, w.in_ok-push.ensures.items)
          (sends_position held c.args.wants.now c.args.commons.now c.args.tips.now pass.wanted.items pass.known.items pass.next c.in_ok-pass.ensures.done order tagged.items c.in_ok-tagged.ensures.marks c.loop-position.list.items c.loop-position.position w.in_ok-entry_in.field-0 w.in_ok-entry_in.ensures
          (or_cases open_there marked (sym sent ∙ w.if-is_sent.true)) c.loop-position.invariant)
      | else-is_sent w ↦
          let neither = or_parts open_there marked (sym sent ∙ w.if-is_sent.false) in
          rw w.list-is
          (drops_position held c.args.wants.now c.args.commons.now c.args.tips.now pass.wanted.items pass.known.items pass.next c.in_ok-pass.ensures.done order tagged.items c.in_ok-tagged.ensures.marks c.loop-position.list.items c.loop-position.position inside
          neither.0 neither.1 c.loop-position.invariant)
    ]

pub returns-clause-answer : goal.returns-clause-answer
returns-clause-answer g c =
    let held = c.args.graph.now.entries in
    let order = in_order c.args.graph.now c.is_ordered.ensures.graph c.requires in
    let pass = c.in_ok-pass.pass in
    let tagged = c.in_ok-tagged.tagged in
    let h = c.in_ok-pass.ensures.inside in
    let j = c.in_ok-tagged.ensures.inside in
    all_positions held c.args.wants.now c.args.commons.now c.args.tips.now pass.wanted.items pass.known.items pass.next c.in_ok-pass.ensures.done order tagged.items c.in_ok-tagged.ensures.marks c.loop-position.list.items c.loop-position.position
    (omega arith) (omega arith) (omega arith) c.loop-position.invariant
