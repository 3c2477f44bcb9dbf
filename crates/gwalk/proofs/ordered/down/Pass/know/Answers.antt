use Rattle.std.proofs.Common.{arith}
use Rattle.gwalk.proofs.PassCounting.{in_count, knows_count, count_fits}
use Rattle.gwalk.proofs.ordered.down.Pass.know.Goals as goal

pub overflow_sub-self : goal.overflow_sub-self
overflow_sub-self g c = rw c.count_at.ensures (in_count _ _ _ _ _ c.requires.counted c.requires.below)

pub overflow_add-self : goal.overflow_add-self
overflow_add-self g c =
    let fits = count_fits _ _ _ _ (knows_count _ _ _ _ _ c.requires.counted c.requires.below) in
    rw (c.count_at.ensures, c.count_at-2.ensures) (omega arith)

pub returns-clause-counted : goal.returns-clause-counted
returns-clause-counted g c =
    rw (c.count_at.ensures, c.count_at-2.ensures) (knows_count _ _ _ _ _ c.requires.counted c.requires.below)
