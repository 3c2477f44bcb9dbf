use Rattle.std.proofs.Common.{subst, sym}
use Rattle.gitrepository.specs.Entries.{IsRead}
use Rattle.gitrepository.specs.steps.Arriving.{Arrived, IsRecorded}
use Rattle.gitrepository.proofs.ArrivalLemmas.{entries_recorded, reads_pushed}
use Rattle.gitrepository.proofs.arrival.Arrival.push.Goals as goal

pub invariant_of-self : goal.invariant_of-self
invariant_of-self g c =
    let inside = c.self.inside in
    let this = subst (λ (it : Arrived _). IsRead it.entries c.args.entry) (sym c.self.view_is) c.requires.read in
    let recorded = subst (λ (it : Arrived _). IsRecorded it.needs it.objects c.args.entry.id) (sym c.self.view_is) c.requires.recorded in (
      reads_pushed inside.entries.items c.push.new.self.items c.args.entry _ c.push.ensures.items c.self.invariant.0 this,
      c.self.invariant.1,
      entries_recorded inside.needs inside.objects.items inside.entries.items c.push.new.self.items c.args.entry _ c.push.ensures.items c.self.invariant.2 recorded,
    )
