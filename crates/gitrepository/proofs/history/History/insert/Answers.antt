use Rattle.std.proofs.Common.{subst, sym}
use Rattle.gitrepository.specs.Entries.{IsKnown}
use Rattle.gitrepository.proofs.HistoryLemmas.{known_inserted}
use Rattle.gitrepository.proofs.history.History.insert.Goals as goal

pub invariant_of-self : goal.invariant_of-self
invariant_of-self g c =
    let this = subst (λ h. IsKnown h.commits c.args.entry) (sym c.self.view_is) c.requires in
    (known_inserted _ _ _ _ _ c.insert.ensures.adds c.self.invariant.0 this, c.self.invariant.1)
