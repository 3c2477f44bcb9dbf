use Rattle.grefs.proofs.RefLemmas.{refs_push}
use Rattle.grefs.proofs.refs.Refs.push.Goals as goal

pub invariant_of-self-2 : goal.invariant_of-self-2
invariant_of-self-2 g c =
    rw c.in_ok-push.ensures.items
    (refs_push c.self.inside.refs.items (c.args.name, c.args.id) c.self.invariant c.requires.name (rw c.self.view_is c.requires.above) (rw c.self.view_is c.requires.room))

pub returns-clause-refs : goal.returns-clause-refs
returns-clause-refs g c = invariant_of-self-2 g c
