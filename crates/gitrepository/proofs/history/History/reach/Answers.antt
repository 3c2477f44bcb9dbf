use Rattle.std.proofs.Common.{subst, sym}
use Rattle.gitrepository.specs.Entries.{IsKnown}
use Rattle.gitrepository.proofs.HistoryLemmas.{known_pushed}
use Rattle.gitrepository.proofs.history.History.reach.Goals as goal

pub invariant_of-self-2 : goal.invariant_of-self-2
invariant_of-self-2 g c =
    let this = subst (λ h. IsKnown h.commits c.in_ok-entry.entry) (sym c.self.view_is) c.in_ok-entry.ensures in
    (c.self.invariant.0, known_pushed _ _ _ _ c.in_ok-push-2.ensures.items c.self.invariant.1 this)
