use Rattle.std.proofs.Common.{refl, slice_range}
use Rattle.gitcommitgraph.proofs.OrderLemmas.{missing_in_part}
use Rattle.gitcommitgraph.proofs.tables.Tables.find.Goals as goal

pub returns-in-None : goal.returns-in-None
returns-in-None c =
    let at = c.places_of-start.ensures in
    missing_in_part c.args.self.now.ids.now c.places_of-start.result.0 c.places_of-start.result.1
    (slice_range c.args.self.now.ids.now c.places_of-start.result.0 c.places_of-start.result.1) refl at.ordered at.inside c.args.id.now c.in-None.ensures at.before at.after
