use Rattle.std.proofs.Common.{arith}
use Rattle.gdag.proofs.PeelLemmas.{peel_long}
use Rattle.gwalk.proofs.Positions.{is_none}
use Rattle.gwalk.proofs.Tagging.{none_held, passed_none, passes_tag, passes_all}
use Rattle.gwalk.proofs.sending.mark_chain.Goals as goal

pub loop-step-init : goal.loop-step-init
loop-step-init g c = passed_none c.args.graph.now.entries c.args.id.now c.args.marks.now.items c.requires.long

pub returns-in_default-clause-each : goal.returns-in_default-clause-each
returns-in_default-clause-each g c =
    let none = is_none c.tag_at.result c.in_default.not-Some in
    passes_all c.args.graph.now.entries c.args.id.now c.args.marks.now.items c.loop-step.marks.items c.loop-step._step c.loop-step.at c.loop-step.invariant
    (λ b tag. none_held c.tag_at.result (c.tag_at.ensures.only b tag) none)

pub loop-step-preserved : goal.loop-step-preserved
loop-step-preserved g c =
    passes_tag c.args.graph.now.entries c.args.id.now c.args.marks.now.items c.loop-step.marks.items c.loop-step._step c.loop-step.at c.loop-step.invariant c.in-Some.tag.position c.in-Some.tag.target c.in-Some.ensures.found.0 c.in-Some.ensures.found.1

pub returns-clause-each : goal.returns-clause-each
returns-clause-each g c =
    absurd (peel_long c.args.graph.now.entries c.loop-step._step c.args.id.now c.loop-step.at c.requires.ends.0 (omega (arith, c.len-step-end.ensures.len, c.loop-step-test.false)) c.loop-step.invariant.leads c.requires.ends.1)
