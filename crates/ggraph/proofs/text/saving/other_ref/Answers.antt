use Rattle.std.proofs.Common.{◌<◌, ◌≤◌, length, sym, ◌∙◌, arith}
use Rattle.std.proofs.lemmas.Bool.{false≢true}
use Rattle.std.proofs.lemmas.List.{take_all}
use Rattle.ggraph.proofs.SaveLemmas.{first_ref, ids_push}
use Rattle.ggraph.proofs.text.saving.other_ref.Goals as goal

pub returns-then-not-is_of : goal.returns-then-not-is_of
returns-then-not-is_of g c =
    let inside : c.loop-pair.pair-index < length c.args.refs.now = omega arith in
    first_ref c.args.format c.args.refs.now c.loop-pair.pair-index c.pair-item.result inside c.pair-item.is c.loop-pair.invariant (λ is. absurd (false≢true (sym c.if-not-is_of.true ∙ c.is_of.ensures.1 is)))

pub loop-pair-preserved : goal.loop-pair-preserved
loop-pair-preserved g c =
    let inside : c.loop-pair.pair-index < length c.args.refs.now = omega arith in
    ids_push c.args.format c.args.refs.now c.loop-pair.pair-index c.pair-item.result inside c.pair-item.is c.loop-pair.invariant (c.is_of.ensures.0 c.if-not-is_of.false)

pub returns : goal.returns
returns g c =
    let past : length c.args.refs.now ≤ c.loop-pair.pair-index = omega arith in
    rw (take_all c.loop-pair.pair-index c.args.refs.now past) at c.loop-pair.invariant
