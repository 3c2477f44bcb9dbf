use Rattle.std.proofs.Common.{◌∙◌, false, length, sym, ap, arith}
use Rattle.std.proofs.lemmas.List.{length-replicate}
use Rattle.gwalk.proofs.Positions.{is_none, item_position}
use Rattle.gwalk.proofs.TagChains.{tip_absent, tip_open, tip_shut}
use Rattle.gwalk.proofs.ordered.tags.tags_of.Goals as goal
use Rattle.gwalk.proofs.ordered.tags.tags_of.Goals.{in-Some+then-sent, in-Some+else-sent, in_default}

pub mark_chain-requires-clause-inside : goal.mark_chain-requires-clause-inside
mark_chain-requires-clause-inside g c =
    let x = item_position c.args.graph.now.entries c.args.tips.now c.loop-tip.tip-index c.tip-item.result c.loop-tip-test.true c.tip-item.is c.in-Some.start (sym c.in-Some.ensures) in
    let h = c.end_of.ensures.below c.in-Some.start x in
    let first = ap length c.in_ok-tagged.ensures.marks in
    let end = length-replicate c.end_of.result false in
    omega arith

pub loop-tip-preserved : goal.loop-tip-preserved
loop-tip-preserved g c =
    let held = c.args.graph.now.entries in
    let tips = c.args.tips.now in
    let before = c.loop-tip.invariant in
    let pass = c.args.pass.now in
    elim c.match-position.branch [
      | in-Some+then-sent w ↦
          let is = sym w.is_open-sent.ensures ∙ w.if-sent.true in
          let marks = tip_open held tips c.loop-tip.tip-index c.tip-item.result c.loop-tip-test.true c.tip-item.is pass.wanted.items pass.known.items c.loop-tip.tagged.items before.marks w.in-Some.start w.peel_position-commit.result (sym w.in-Some.ensures) w.peel_position-commit.ensures is w.mark_chain.new.tagged.items w.mark_chain.ensures in
          rw w.tagged-is (record { marks = marks; long = w.mark_chain.ensures.long ∙ before.long })
      | in-Some+else-sent w ↦
          let is = sym w.is_open-sent.ensures ∙ w.if-sent.false in
          let marks = tip_shut held tips c.loop-tip.tip-index c.tip-item.result c.loop-tip-test.true c.tip-item.is pass.wanted.items pass.known.items c.loop-tip.tagged.items before.marks w.in-Some.start w.peel_position-commit.result (sym w.in-Some.ensures) w.peel_position-commit.ensures is in
          rw w.tagged-is (record { marks = marks; long = before.long })
      | in_default w ↦
          let absent = sym c.position.ensures ∙ is_none c.position.result w.in_default.not-Some in
          let marks = tip_absent held tips c.loop-tip.tip-index c.tip-item.result c.loop-tip-test.true c.tip-item.is pass.wanted.items pass.known.items c.loop-tip.tagged.items before.marks absent in
          rw w.tagged-is (record { marks = marks; long = before.long })
    ]
