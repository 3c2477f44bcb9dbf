use Rattle.std.proofs.Common.{◌≡◌, Some, subst}
use Rattle.gcomplete.specs.Batches.{Noted, need_at, need_of}
use Rattle.gcomplete.proofs.batch.Batch.need.Goals as goal

pub returns-clause-link : goal.returns-clause-link
returns-clause-link g c objects is =
    let by = c.at.result.0 in let link = c.at.result.1 in
    let P : Noted → Type 0 = λ n. need_at n.needs link.id ≡ Some (need_of by link) in
    is.only link.id (need_of by link) (subst P c.self.view_is c.at.ensures.noted)
