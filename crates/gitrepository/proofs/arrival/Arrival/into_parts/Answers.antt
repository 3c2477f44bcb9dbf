use Rattle.std.proofs.Common.{All, subst}
use Rattle.std.proofs.lemmas.List.Elements.{All-weaker}
use Rattle.gitrepository.specs.Received.{IsEntryInReceived}
use Rattle.gitrepository.specs.steps.Arriving.{IsEntryRecorded}
use Rattle.gitrepository.proofs.arrival.Arrival.into_parts.Goals as goal

pub returns-in-Ok-clause-received : goal.returns-in-Ok-clause-received
returns-in-Ok-clause-received g c =
    let inside = c.self.inside in let links = c.in-Ok.prerequisites.items in
    subst (λ objects. All (IsEntryInReceived links objects) inside.entries.items) c.entries.ensures.objects
    (All-weaker (IsEntryRecorded inside.needs inside.objects.items) (IsEntryInReceived links c.entries.result.now)
    (λ entry is. c.in-Ok.ensures.recorded entry.id is) inside.entries.items c.self.invariant.2)
