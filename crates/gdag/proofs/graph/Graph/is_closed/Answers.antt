use Rattle.std.proofs.Common.{refl}
use Rattle.gdag.proofs.ClosedLemmas.{closed_from_each, each_from_closed}
use Rattle.gdag.proofs.Ordering.{ordered_is_closed}
use Rattle.gdag.proofs.graph.Graph.is_closed.Goals as goal

pub returns-then-is_ordered : goal.returns-then-is_ordered
returns-then-is_ordered g c =
    (λ t. ordered_is_closed c.args.self.now.entries c.is_ordered.ensures.graph.differ (c.is_ordered.ensures.ordered.0 c.if-is_ordered.true), λ closed. refl)

pub returns : goal.returns
returns g c = (
  λ t. closed_from_each c.args.self.now.entries (c.holds_parents.ensures.answer.0 t),
  λ closed. c.holds_parents.ensures.answer.1 (each_from_closed c.args.self.now.entries c.holds_parents.ensures.graph.differ closed),
)
