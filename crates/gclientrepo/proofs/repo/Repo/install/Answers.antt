use Rattle.gclientrepo.proofs.RepoLemmas.{connected_installed}
use Rattle.gclientrepo.proofs.repo.Repo.install.Goals as goal

pub mark_connected-requires : goal.mark_connected-requires
mark_connected-requires g c = rw (← c.self.view_is) at c.requires.connected

pub invariant_of-self : goal.invariant_of-self
invariant_of-self g c = rw c.in_err-mark_connected.ensures.unchanged c.self.invariant

pub returns-in_err-mark_connected-clause-whole : goal.returns-in_err-mark_connected-clause-whole
returns-in_err-mark_connected-clause-whole g c = invariant_of-self g c

pub invariant_of-self-2 : goal.invariant_of-self-2
invariant_of-self-2 g c =
    connected_installed c.self.inside.graph c.self.inside.refs c.self.inside.known c.args.ids.now c.args.refs c.mark_connected.new.marks
    c.self.invariant (rw (← c.self.view_is) at c.requires.connected) (rw (← c.self.view_is) at c.requires.from) (c.mark_connected.ensures.connected c.self.invariant.connected) c.in_ok-mark_connected.ensures.marked

pub returns-clause-whole : goal.returns-clause-whole
returns-clause-whole g c = invariant_of-self-2 g c
