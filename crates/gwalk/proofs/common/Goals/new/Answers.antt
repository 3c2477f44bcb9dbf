use Rattle.gwalk.proofs.Looking.{goals_are}
use Rattle.gwalk.proofs.common.Goals.new.Goals as goal

pub returns : goal.returns
returns g c =
    goals_are c.args.graph.now.entries c.args.ids.now c.in_ok-walk.walk.marks.items c.in_ok-walk.walk.met.items c.in_ok-walk.walk.missing c.in_ok-walk.walk.parent_count c.in_ok-absent.absent.items c.in_ok-walk.ensures c.in_ok-absent.ensures
