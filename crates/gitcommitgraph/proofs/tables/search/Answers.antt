use Rattle.std.proofs.Common.{rules}
use Rattle.std.specs.Ordering.{nat_cmp}
use Rattle.std.specs.Cmp.Lexicographic.{slice_cmp}
use Rattle.std.proofs.lemmas.Fn.{always_returns_same}
use Rattle.gitcommitgraph.proofs.OrderLemmas.{found_id, no_id}
use Rattle.gitcommitgraph.proofs.tables.search.Goals as goal

pub returns-in-Ok : goal.returns-in-Ok
returns-in-Ok c = (
  c.in-Ok.ensures.bound,
  found_id c.args.ids.now c.args.id.now c.in-Ok.place
      (c.in-Ok.ensures.position (λ other. slice_cmp nat_cmp other c.args.id.now) (always_returns_same _ _ _ (λ a r g called. (search rules, search rules)))),
)

pub returns-in-Err : goal.returns-in-Err
returns-in-Err c =
    no_id c.args.ids.now c.args.id.now c.in-Err.field-0 c.requires
    (c.in-Err.ensures.position (λ other. slice_cmp nat_cmp other c.args.id.now) (always_returns_same _ _ _ (λ a r g called. (search rules, search rules))))
