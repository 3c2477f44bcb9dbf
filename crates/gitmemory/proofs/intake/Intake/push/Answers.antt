use Rattle.gitmemory.specs.steps.Taking.{Taken}
use Rattle.gitmemory.proofs.TakingLemmas.{taken_pushed}
use Rattle.gitmemory.proofs.intake.Intake.push.Goals as goal

pub invariant_of-self : goal.invariant_of-self
invariant_of-self g c =
    let it : Taken g.row.A.Denot = record { noted = c.self.inside.batch; entries = c.self.inside.entries.items } in
    taken_pushed it c.args.self.now c.push.new.self.items c.args.entry c.in-Some.entry _ c.self.view_is c.push.ensures.items c.self.invariant c.requires c.in-Some.is

pub invariant_of-self-in_err-push : goal.invariant_of-self-in_err-push
invariant_of-self-in_err-push g c =
    let it : Taken g.row.A.Denot = record { noted = c.self.inside.batch; entries = c.self.inside.entries.items } in
    taken_pushed it c.args.self.now c.push.new.self.items c.args.entry c.in-Some.entry _ c.self.view_is c.push.ensures.items c.self.invariant c.requires c.in-Some.is
