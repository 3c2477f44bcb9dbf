use Rattle.gclientrepo.proofs.repo.Repo.insert_all.Goals as goal

pub invariant_of-self : goal.invariant_of-self
invariant_of-self g c =
    c.connected_repo_stays.ensures c.self.inside.graph c.insert_all.new.self c.self.inside.refs c.self.inside.known
    c.insert_all.ensures.grows c.insert_all.ensures.graph.differ c.self.invariant

pub returns-clause-only : goal.returns-clause-only
returns-clause-only g c = rw (← c.self.view_is) c.insert_all.ensures.only

pub returns-clause-only_parents : goal.returns-clause-only_parents
returns-clause-only_parents g c = rw (← c.self.view_is) c.insert_all.ensures.only_parents

pub returns-clause-keeps : goal.returns-clause-keeps
returns-clause-keeps g c = rw (← c.self.view_is) c.insert_all.ensures.keeps

pub returns-clause-connected : goal.returns-clause-connected
returns-clause-connected g c = rw (← c.self.view_is) c.insert_all.ensures.connected

pub returns-clause-whole : goal.returns-clause-whole
returns-clause-whole g c = invariant_of-self g c
