use Rattle.ganswer.proofs.server.missing_parent.Goals as goal

pub returns-then-is_ordered : goal.returns-then-is_ordered
returns-then-is_ordered g c =
    c.ordered_is_closed.ensures c.args.graph.now.entries c.is_ordered.ensures.graph.differ (c.is_ordered.ensures.ordered.0 c.if-is_ordered.true)
