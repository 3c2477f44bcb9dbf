use Rattle.std.proofs.Common.{IfSome, subst}
use Rattle.gitrepository.specs.Entries.{IsKnown}
use Rattle.gitrepository.proofs.HistoryLemmas.{known_popped}
use Rattle.gitrepository.proofs.history.History.pop.Goals as goal

pub invariant_of-self : goal.invariant_of-self
invariant_of-self g c =
    (c.self.invariant.0, (known_popped _ _ _ _ c.pop.ensures.items c.self.invariant.1).0)

pub returns-clause-known : goal.returns-clause-known
returns-clause-known g c =
    subst (λ h. IfSome c.pop.result (λ entry. IsKnown h.commits entry)) c.self.view_is
    (known_popped _ _ _ _ c.pop.ensures.items c.self.invariant.1).1
