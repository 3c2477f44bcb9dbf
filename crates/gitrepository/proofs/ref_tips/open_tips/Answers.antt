use Rattle.std.proofs.Common.{List, ℕ, sym, subst}
use Rattle.gitrepository.specs.Repositories.{AreHeld}
use Rattle.gitrepository.proofs.ref_tips.open_tips.Goals as goal

pub returns-clause-held : goal.returns-clause-held
returns-clause-held g c =
    let held = rw c.in-Some.is at c.in_ok-graph.ensures in
    subst (λ (refs : List (List ℕ × List ℕ)). AreHeld c.in-Some.graph refs) (sym c.in_ok-refs.ensures) held
