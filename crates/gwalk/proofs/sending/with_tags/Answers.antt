use Rattle.std.proofs.Common.{take, sym, ◌∙◌, arith}
use Rattle.std.proofs.lemmas.Bool.{false≢true}
use Rattle.std.proofs.lemmas.List.{take_all}
use Rattle.gdag.proofs.Growing.{take_one}
use Rattle.gwalk.proofs.Tagging.{tags_none, tags_step, tags_skip}
use Rattle.gwalk.proofs.sending.with_tags.Goals as goal
use Rattle.gwalk.proofs.sending.with_tags.Goals.{then-leads_to_marked, else-leads_to_marked}

pub loop-tip-init : goal.loop-tip-init
loop-tip-init g c =
    rw c.in_ok-marks.ensures.items (tags_none c.args.graph.now.entries c.args.new.now c.requires)

pub mark_chain-requires-clause-long : goal.mark_chain-requires-clause-long
mark_chain-requires-clause-long g c = c.loop-tip.invariant.long

pub mark_chain-requires-clause-ends : goal.mark_chain-requires-clause-ends
mark_chain-requires-clause-ends g c =
    let lead = c.leads_to_marked.ensures.0 c.if-leads_to_marked.true in (lead.commit, lead.peels)

pub loop-tip-preserved : goal.loop-tip-preserved
loop-tip-preserved g c =
    let entries = c.args.graph.now.entries in
    let tip = c.tip-item.result in
    let before = take c.loop-tip.tip-index c.args.tips.now in
    let marks = c.loop-tip.marks.items in
    let more = take_one c.args.tips.now c.loop-tip.tip-index tip c.loop-tip-test.true c.tip-item.is in
    elim c.if-leads_to_marked.branch [
      | then-leads_to_marked w ↦
          let lead = c.leads_to_marked.ensures.0 w.if-leads_to_marked.true in
          rw (w.marks-is, more) (tags_step entries c.args.new.now before marks c.loop-tip.invariant tip _ lead w.mark_chain.ensures.long w.mark_chain.ensures.each)
      | else-leads_to_marked w ↦
          rw (w.marks-is, more) (tags_skip entries c.args.new.now before marks c.loop-tip.invariant tip (λ lead. false≢true (sym w.if-leads_to_marked.false ∙ c.leads_to_marked.ensures.1 lead)))
    ]

pub returns : goal.returns
returns g c = rw (take_all c.loop-tip.tip-index c.args.tips.now (omega arith)) at c.loop-tip.invariant
