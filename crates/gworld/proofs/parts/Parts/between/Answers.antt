use Rattle.gworld.proofs.Starting.{begins_as}
use Rattle.gworld.proofs.parts.Parts.between.Goals as goal

pub returns : goal.returns
returns g c =
    begins_as c.args.server c.args.repo c.new.result.items c.new-2.result.items c.new.ensures.items c.new-2.ensures.items
