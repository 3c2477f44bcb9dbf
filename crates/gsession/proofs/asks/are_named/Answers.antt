use Rattle.std.proofs.Common.{◌∙◌, ◌≤◌, length, sym, refl, arith}
use Rattle.std.proofs.lemmas.Bool.{false≢true}
use Rattle.std.proofs.lemmas.List.{append-nil, take_all}
use Rattle.gsession.specs.Asking.{asks_by, asks_by_all}
use Rattle.gsession.proofs.AskLemmas.{asks_by_all-append, named_more, named_one}
use Rattle.gsession.proofs.asks.are_named.Goals as goal

pub returns-then-not-leads_to_names : goal.returns-then-not-leads_to_names
returns-then-not-leads_to_names g c =
    let lines = c.args.reply.now.lines in
    let one = asks_by {A = g.row.A.Denot} c.spec-item.result lines in (
      λ yes. absurd (false≢true yes),
      λ named. sym c.if-not-leads_to_names.true
          ∙ c.leads_to_names.ensures.1 (named_one (λ s. asks_by_all s lines) (asks_by_all-append lines)
          c.args.specs.now c.loop-spec.spec-index c.spec-item.result c.loop-spec-test.true c.spec-item.is one
          (append-nil one) named),
    )

pub loop-spec-preserved : goal.loop-spec-preserved
loop-spec-preserved g c =
    let lines = c.args.reply.now.lines in
    let one = asks_by {A = g.row.A.Denot} c.spec-item.result lines in
    named_more (λ s. asks_by_all s lines) (asks_by_all-append lines) c.args.specs.now c.loop-spec.spec-index
    c.spec-item.result c.loop-spec-test.true c.spec-item.is one (append-nil one) c.loop-spec.invariant
    (c.leads_to_names.ensures.0 c.if-not-leads_to_names.false)

pub returns : goal.returns
returns g c =
    let specs = c.args.specs.now in
    let past : length specs ≤ c.loop-spec.spec-index = omega (arith, c.loop-spec-test.false) in
    (λ _. rw (take_all c.loop-spec.spec-index specs past) at c.loop-spec.invariant, λ _. refl)
