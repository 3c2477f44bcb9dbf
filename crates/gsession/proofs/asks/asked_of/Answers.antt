use Rattle.std.proofs.Common.{◌≤◌, [], length, arith}
use Rattle.std.proofs.lemmas.List.{append-nil, take_all}
use Rattle.gsession.specs.Asking.{asks_by, asks_by_all}
use Rattle.gsession.proofs.AskLemmas.{added_more, asked_have_ids, asks_by_all-append}
use Rattle.gsession.proofs.asks.asked_of.Goals as goal

pub loop-spec-preserved : goal.loop-spec-preserved
loop-spec-preserved g c =
    let lines = c.args.reply.now.lines in
    let one = asks_by c.spec-item.result lines in
    added_more (λ s. asks_by_all s lines) (asks_by_all-append lines) c.args.specs.now c.loop-spec.spec-index
    c.spec-item.result c.loop-spec-test.true c.spec-item.is one (append-nil one) [] c.loop-spec.asks c.add_asks.new.asks
    c.loop-spec.invariant c.in_ok-add_asks.ensures

pub returns-clause-asks : goal.returns-clause-asks
returns-clause-asks g c =
    let specs = c.args.specs.now in
    let past : length specs ≤ c.loop-spec.spec-index = omega (arith, c.loop-spec-test.false) in
    rw (take_all c.loop-spec.spec-index specs past) at c.loop-spec.invariant

pub returns-clause-ids : goal.returns-clause-ids
returns-clause-ids g c =
    let specs = c.args.specs.now in
    let past : length specs ≤ c.loop-spec.spec-index = omega (arith, c.loop-spec-test.false) in
    asked_have_ids specs c.args.reply.now.lines c.loop-spec.asks
    (rw (take_all c.loop-spec.spec-index specs past) at c.loop-spec.invariant.0)
