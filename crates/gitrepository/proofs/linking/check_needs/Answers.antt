use Rattle.std.proofs.Common.{◌≤◌, take, length, sym, subst, arith}
use Rattle.std.proofs.lemmas.List.{take_all}
use Rattle.std.proofs.lemmas.List.Elements.{All-more}
use Rattle.std.proofs.lemmas.Option.{get_or_from_slice_get, slice_get_within}
use Rattle.gcomplete.proofs.Tests.{found_in}
use Rattle.gitrepository.specs.steps.Arriving.{LeadsFrom}
use Rattle.gitrepository.proofs.LinkLemmas.{all_lead_more}
use Rattle.gitrepository.proofs.linking.check_needs.Goals as goal

pub loop-place-preserved : goal.loop-place-preserved
loop-place-preserved g c =
    let needs = c.args.needs.now in let k = c.loop-place.place in let pair = c.at-id.result in
    let old = c.loop-place.prerequisites.items in let new = c.check_need.new.prerequisites.items in
    let P = LeadsFrom new c.args.pack.now in (
      All-more P needs k pair (slice_get_within needs k pair c.at-id.ensures)
          (all_lead_more old new c.args.pack.now c.check_need.ensures.keeps (take k needs) c.loop-place.invariant.0)
          (subst P (sym (get_or_from_slice_get needs k pair pair c.at-id.ensures)) c.in_default.ensures.leads),
      c.check_need.ensures.stored c.loop-place.invariant.1,
    )

pub returns-clause-leads : goal.returns-clause-leads
returns-clause-leads g c a kind is =
    let needs = c.args.needs.now in
    let past : length needs ≤ c.loop-place.place = let n = c.len-place-end.ensures in omega (arith, c.loop-place-test.false) in
    found_in (LeadsFrom c.loop-place.prerequisites.items c.args.pack.now) needs a kind (rw (take_all c.loop-place.place needs past) at c.loop-place.invariant.0) is
