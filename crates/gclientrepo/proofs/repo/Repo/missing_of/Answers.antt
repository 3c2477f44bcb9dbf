use Rattle.std.proofs.Common.{List, ap, subst, sym}
use Rattle.gclientrepo.specs.Asks.{asked_ids}
use Rattle.gclientrepo.specs.Changes.{NeedsWalk}
use Rattle.gclientrepo.specs.Repos.{RepoState}
use Rattle.gclientrepo.proofs.RepoLemmas.{absent_misses, all_connected, needs_walk, with_reason}
use Rattle.gclientrepo.proofs.repo.Repo.missing_of.Goals as goal

pub returns-in-Some-clause-answer : goal.returns-in-Some-clause-answer
returns-in-Some-clause-answer g c =
    rw (← c.self.view_is) (absent_misses c.self.inside.graph.entries (asked_ids c.args.asks.now) c.in-Some.id
    c.in-Some.ensures.0 c.in-Some.ensures.1)

pub returns-then-is_ordered-clause-answer : goal.returns-then-is_ordered-clause-answer
returns-then-is_ordered-clause-answer g c =
    rw (← c.self.view_is) (all_connected c.ordered_is_closed.ensures c.closed_is_connected.ensures c.self.inside.graph.entries
    c.is_ordered.ensures.graph.differ c.is_ordered.result c.is_ordered.ensures.ordered c.if-is_ordered.true
    (asked_ids c.args.asks.now) c.in_default.ensures)

pub returns-clause-fault : goal.returns-clause-fault
returns-clause-fault g c =
    let ids = asked_ids c.args.asks.now in
    with_reason c.missing_by_walk.result c.missing_by_walk.ensures.fault
    (subst (λ (s : RepoState g.row.A.Denot). NeedsWalk s.graph.entries ids) c.self.view_is
    (needs_walk c.self.inside.graph.entries ids c.is_ordered.result c.in_default.ensures c.is_ordered.ensures.ordered
    c.if-is_ordered.false))
