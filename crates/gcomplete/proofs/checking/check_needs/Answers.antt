use Rattle.std.proofs.Common.{◌≤◌, length, sym, subst, arith}
use Rattle.std.proofs.lemmas.List.{take_all}
use Rattle.std.proofs.lemmas.List.Elements.{All-more}
use Rattle.std.proofs.lemmas.Option.{get_or_from_slice_get, slice_get_within}
use Rattle.gname.specs.Ids.{Id}
use Rattle.gcomplete.specs.Batches.{need_of}
use Rattle.gcomplete.specs.steps.Checking.{LeadsAt}
use Rattle.gcomplete.specs.declared.needs.Need.{Need}
use Rattle.gcomplete.proofs.Tests.{all_lead}
use Rattle.gcomplete.proofs.checking.check_needs.Goals as goal

pub loop-place-preserved : goal.loop-place-preserved
loop-place-preserved g c =
    let needs = c.args.needs.now in let k = c.loop-place.place in
    let pair : Id × Need = (c.at-by.result.1.id, need_of c.at-by.result.0 c.at-by.result.1) in
    let P = LeadsAt c.args.store.now c.args.batch.now in
    All-more P needs k pair (slice_get_within needs k pair c.at-by.ensures.at) c.loop-place.invariant
    (subst P (sym (get_or_from_slice_get needs k pair pair c.at-by.ensures.at)) (c.leads.ensures.0 c.if-not-leads.false))

pub returns : goal.returns
returns g c =
    let past : length c.args.needs.now ≤ c.loop-place.place = let n = c.len-place-end.ensures in omega (arith, c.loop-place-test.false) in
    all_lead c.args.store.now c.args.batch.now c.args.needs.now (rw (take_all c.loop-place.place c.args.needs.now past) at c.loop-place.invariant)
