use Rattle.gcomplete.specs.Batches.{Noted}
use Rattle.gcomplete.proofs.Tests.{judged}
use Rattle.gcomplete.proofs.batch.Batch.check.Goals as goal

pub returns : goal.returns
returns g c =
    let inside : Noted = record { types = c.self.inside.types; needs = c.self.inside.needs } in
    judged c.args.store.now inside c.args.self.now c.check_needs.result c.self.view_is c.in_default.ensures c.check_needs.ensures
