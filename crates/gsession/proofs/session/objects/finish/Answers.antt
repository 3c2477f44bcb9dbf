use Rattle.std.proofs.Common.{ℕ, List, [], ◌++◌, subst}
use Rattle.std.proofs.lemmas.List.{append-nil}
use Rattle.gsession.proofs.session.objects.finish.Goals as goal

pub returns-in-Err-clause-answers : goal.returns-in-Err-clause-answers
returns-in-Err-clause-answers g c = λ bytes had.
    let told : (more : List ℕ) → g.K.KeepingIndexer.index_fails (bytes ++ more) c.in-Err.fault =
    rw c.in-Err.is at had in
    subst (λ (b : List ℕ). g.K.KeepingIndexer.index_fails b c.in-Err.fault) (append-nil bytes)
    (told [])
