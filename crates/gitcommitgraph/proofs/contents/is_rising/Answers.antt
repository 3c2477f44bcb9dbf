use Rattle.std.proofs.Common.{nat_le, rules}
use Rattle.std.proofs.lemmas.Fn.{always_returns_same}
use Rattle.gitcommitgraph.specs.steps.Rows.{row_offset}
use Rattle.gitcommitgraph.proofs.OrderLemmas.{rising_decides}
use Rattle.gitcommitgraph.proofs.contents.is_rising.Goals as goal

pub returns : goal.returns
returns c =
    rising_decides c.args.rows.now c.is_sorted_by.result
    (c.is_sorted_by.ensures.cases (λ x y. nat_le (row_offset x) (row_offset y)) (always_returns_same _ _ _ (λ a r g called. (search rules, search rules))))
