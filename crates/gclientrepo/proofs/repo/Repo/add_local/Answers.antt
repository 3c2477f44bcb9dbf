use Rattle.gclientrepo.proofs.repo.Repo.add_local.Goals as goal

pub invariant_of-self-2 : goal.invariant_of-self-2
invariant_of-self-2 g c =
    c.connected_repo_stays.ensures c.self.inside.graph c.insert.new.self c.self.inside.refs c.self.inside.known
    c.insert.ensures.grows c.insert.ensures.graph.differ c.self.invariant

pub returns-clause-whole : goal.returns-clause-whole
returns-clause-whole g c = invariant_of-self-2 g c
