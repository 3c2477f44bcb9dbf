use Rattle.std.proofs.Common.{arith}
use Rattle.gcomplete.specs.Stores.{object_of}
use Rattle.gcomplete.proofs.Closing.{reread}
use Rattle.gcomplete.proofs.store.ClosedStore.is_judged.Goals as goal

pub returns-clause-same : goal.returns-clause-same
returns-clause-same g c t =
    let has = c.has.ensures.0 t in
    reread c.args.self.now c.args.id.now (object_of c.args.kind c.args.body.now) has.0 (record { name = has.1; bytes = λ i. omega (arith, c.type_inv.body i); sized = omega arith })
