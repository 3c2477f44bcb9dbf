use Rattle.gitrepository.proofs.ArrivalLemmas.{holds_pushed}
use Rattle.gitrepository.proofs.arrival.Arrival.push_object.Goals as goal

pub returns-in-Ok-clause-held : goal.returns-in-Ok-clause-held
returns-in-Ok-clause-held g c =
    holds_pushed c.args.self.now.entries c.push.new.self.entries c.in-Ok.entry c.args.id.now c.push.result c.push.ensures.pushed c.in-Ok.ensures.id
