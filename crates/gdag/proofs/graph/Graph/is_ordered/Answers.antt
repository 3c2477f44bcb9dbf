use Rattle.gdag.proofs.graph.Graph.is_ordered.Goals as goal

pub returns-clause-ordered : goal.returns-clause-ordered
returns-clause-ordered g c = rw (← c.self.view_is) c.self.invariant.1
