use Rattle.std.proofs.Common.{Some, rules}
use Rattle.gdag.specs.Reach.{IsConnected}
use Rattle.gclientrepo.proofs.RepoLemmas.{all_connected, first_misses}
use Rattle.gclientrepo.proofs.repo.Repo.missing.Goals as goal

pub returns-in-Some-clause-answer : goal.returns-in-Some-clause-answer
returns-in-Some-clause-answer g c =
    rw (← c.self.view_is) (first_misses c.self.inside.graph.entries c.args.ids.now c.in-Some.id c.in-Some.ensures)

pub returns-then-is_ordered-clause-answer : goal.returns-then-is_ordered-clause-answer
returns-then-is_ordered-clause-answer g c =
    rw (← c.self.view_is) (all_connected c.ordered_is_closed.ensures c.closed_is_connected.ensures c.self.inside.graph.entries
    c.is_ordered.ensures.graph.differ c.is_ordered.result c.is_ordered.ensures.ordered c.if-is_ordered.true
    c.args.ids.now c.in_default.ensures)
