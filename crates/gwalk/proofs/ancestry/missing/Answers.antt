use Rattle.gwalk.proofs.Reached.{held_misses}
use Rattle.gwalk.proofs.ancestry.missing.Goals as goal

pub returns-then-is_ordered-clause-answer : goal.returns-then-is_ordered-clause-answer
returns-then-is_ordered-clause-answer g c =
    let h = c.args.graph.now.entries in
    let closed = c.ordered_is_closed.ensures h c.is_ordered.ensures.graph.differ (c.is_ordered.ensures.ordered.0 c.if-is_ordered.true) in
    held_misses h c.args.ids.now c.first_absent.result ((c.closed_is_connected.ensures h).0 closed) c.first_absent.ensures
