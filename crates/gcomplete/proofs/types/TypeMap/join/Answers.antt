use Rattle.gcomplete.proofs.Closing.{is_joined}
use Rattle.gcomplete.proofs.types.TypeMap.join.Goals as goal

pub returns-in-Ok : goal.returns-in-Ok
returns-in-Ok g c = is_joined c.args.self.now c.args.others c.append.new.self.entries c.self.inside.map.entries c.others.inside.map.entries c.self.view_is c.others.view_is c.len-count.ensures.unique c.in-Ok.ensures.inserts.0
