use Rattle.std.proofs.Common.{◌≤◌, length, sym, subst, ◌∙◌, arith}
use Rattle.std.proofs.lemmas.List.{take_all}
use Rattle.std.proofs.lemmas.List.Elements.{All-more}
use Rattle.std.proofs.lemmas.Option.{get_or_from_slice_get, slice_get_within}
use Rattle.gcomplete.specs.steps.Checking.{IsFreeAt}
use Rattle.gcomplete.proofs.Tests.{all_free}
use Rattle.gcomplete.proofs.checking.check_types.Goals as goal

pub loop-place-preserved : goal.loop-place-preserved
loop-place-preserved g c =
    let batch = c.args.batch.now in let k = c.loop-place.place in let pair = c.at-id.result in
    let P = IsFreeAt c.args.store.now in
    All-more P batch k pair (slice_get_within batch k pair c.at-id.ensures.at) c.loop-place.invariant
    (subst P (sym (get_or_from_slice_get batch k pair pair c.at-id.ensures.at)) (λ other kept. c.is_other.ensures.same c.if-is_other.false other (c.get.ensures ∙ kept)))

pub returns : goal.returns
returns g c =
    let past : length c.args.batch.now ≤ c.loop-place.place = let n = c.len-place-end.ensures in omega (arith, c.loop-place-test.false) in
    all_free c.args.store.now c.args.batch.now (rw (take_all c.loop-place.place c.args.batch.now past) at c.loop-place.invariant)
