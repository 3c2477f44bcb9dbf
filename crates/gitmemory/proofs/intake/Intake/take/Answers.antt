use Rattle.std.proofs.Common.{OnOk, Result, Ok, Err, subst, sym}
use Rattle.gcomplete.specs.Adding.{AddsObject}
use Rattle.gcomplete.specs.Batches.{Noted}
use Rattle.gcomplete.specs.Stores.{object_of}
use Rattle.gitmemory.proofs.intake.Intake.take.Goals as goal

holds_on_ok : {V E P : Type 0} (result : Result V E) → P → OnOk result P
holds_on_ok (Ok done) p = p
holds_on_ok (Err fault) p = tt

pub returns-in-Ok-clause-object : goal.returns-in-Ok-clause-object
returns-in-Ok-clause-object g c =
    let o = object_of c.args.kind c.args.body.now in
    let P : Noted → Type 0 = λ noted. AddsObject c.args.self.now.noted c.args.id.now o noted in
    holds_on_ok c.push.result (subst P (sym c.push.ensures.same) c.in_ok-add.ensures.adds)
