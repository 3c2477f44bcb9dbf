use Rattle.std.proofs.Common.{subst}
use Rattle.gcomplete.specs.Adding.{AddsObject}
use Rattle.gcomplete.specs.Stores.{object_of}
use Rattle.gitmemory.specs.steps.Taking.{Taken}
use Rattle.gitmemory.proofs.TakingLemmas.{taken_more}
use Rattle.gitmemory.proofs.intake.Intake.add.Goals as goal

pub invariant_of-self : goal.invariant_of-self
invariant_of-self g c =
    taken_more c.self.inside.batch.types c.add.new.self.types c.in-Ok.ensures.keeps c.self.inside.entries.items c.self.invariant

pub returns-in-Ok-clause-adds : goal.returns-in-Ok-clause-adds
returns-in-Ok-clause-adds g c =
    let o = object_of c.args.kind c.args.body.now in
    let P : Taken g.row.A.Denot → Type 0 = λ it. AddsObject it.noted c.args.id.now o c.add.new.self in
    subst P c.self.view_is c.in-Ok.ensures.adds
