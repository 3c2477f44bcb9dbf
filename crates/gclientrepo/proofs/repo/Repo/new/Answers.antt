use Rattle.std.proofs.Common.{inr}
use Rattle.std.proofs.lemmas.Result.{err_from_is_err_and}
use Rattle.gclientrepo.proofs.RepoLemmas.{unconnected_named}
use Rattle.gclientrepo.proofs.repo.Repo.new.Goals as goal

pub returns-in_err-place-clause-opens : goal.returns-in_err-place-clause-opens
returns-in_err-place-clause-opens g c =
    let p = err_from_is_err_and c.from_residual.result c.from_residual.ensures.1 in
    rw (p.1, p.2, c.in_err-place.ensures.fault.0) (inr c.in_err-place.ensures.fault.1)

pub returns-in-Some-clause-opens : goal.returns-in-Some-clause-opens
returns-in-Some-clause-opens g c =
    unconnected_named c.args.graph.entries c.args.refs c.in-Some.place c.into_name.result
    (rw c.in-Some.is at c.in_ok-place.ensures.place) c.into_name.ensures

pub invariant_of-result : goal.invariant_of-result
invariant_of-result g c = c.in_ok-known.ensures.whole
