use Rattle.std.proofs.Common.{rules}
use Rattle.std.specs.Ordering.{is_lt, nat_cmp}
use Rattle.std.specs.Cmp.Lexicographic.{slice_cmp}
use Rattle.std.proofs.lemmas.Fn.{always_returns_same}
use Rattle.gitcommitgraph.proofs.OrderLemmas.{ascending_decides}
use Rattle.gitcommitgraph.proofs.tables.Tables.are_ascending.Goals as goal

pub returns : goal.returns
returns c =
    ascending_decides c.args.self.now.ids.now c.is_sorted_by.result
    (c.is_sorted_by.ensures.cases (λ x y. is_lt (slice_cmp nat_cmp x y)) (always_returns_same _ _ _ (λ a r g called. (search rules, search rules))))
