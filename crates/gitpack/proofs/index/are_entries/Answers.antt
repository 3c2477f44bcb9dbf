use Rattle.std.proofs.Common.{not, rules, arith}
use Rattle.std.specs.Ordering.{is_lt}
use Rattle.std.proofs.lemmas.Fn.{always_returns_same}
use Rattle.gname.specs.Ids.{id_cmp}
use Rattle.gitpack.proofs.SortLemmas.{adjacent_from_sorted, sorted_from_adjacent}
use Rattle.gitpack.proofs.index.are_entries.Goals as goal

pub returns-then-entries-le-MAX_ENTRIES : goal.returns-then-entries-le-MAX_ENTRIES
returns-then-entries-le-MAX_ENTRIES c =
    let entries = c.args.entries.now in
    let sorted = c.is_sorted_by.ensures.cases (λ x y. not (is_lt (id_cmp y.id x.id))) (always_returns_same _ _ _ (λ a r g called. (search rules, search rules))) in (
      λ answer. record {
        lines = c.requires;
        sorted = sorted_from_adjacent entries c.is_sorted_by.result answer sorted;
        few = let short = c.if-entries-le-MAX_ENTRIES.true in omega (arith, short);
      },
      λ are. adjacent_from_sorted entries c.is_sorted_by.result sorted are.sorted,
    )
