use Rattle.gclientrepo.proofs.repo.Repo.missing_by_walk.Goals as goal

pub missing_known-requires : goal.missing_known-requires
missing_known-requires g c = c.self.invariant.connected

pub returns-clause-answer : goal.returns-clause-answer
returns-clause-answer g c = rw (← c.self.view_is) c.in_ok-missing.ensures.answer
