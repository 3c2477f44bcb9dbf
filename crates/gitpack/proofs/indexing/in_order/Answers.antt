use Rattle.std.proofs.Common.{rules, arith}
use Rattle.std.specs.Ordering.{is_lt}
use Rattle.std.proofs.lemmas.Fn.{always_returns_same}
use Rattle.std.proofs.lemmas.List.Sorted.{All-permutation}
use Rattle.gname.specs.Ids.{id_cmp}
use Rattle.gitpack.specs.Indexes.{IsLine, line_of, object_id}
use Rattle.gitpack.proofs.SortLemmas.{object_order}
use Rattle.gitpack.proofs.indexing.in_order.Goals as goal

pub returns : goal.returns
returns g c = record {
  lines = All-permutation (λ e. IsLine (line_of e)) c.args.objects.items c.sort_unstable_by.new.self.items c.sort_unstable_by.ensures.permutation c.requires;
  sorted = c.sort_unstable_by.ensures.sorted (λ x y. is_lt (id_cmp (object_id x) (object_id y))) object_order (always_returns_same _ _ _ (λ a r g called. (search rules, search rules)));
  few = let n = c.sort_unstable_by.ensures.len in let m = c.len.ensures in let short = c.if-len-gt-MAX_ENTRIES.false in omega (arith, n, m, short);
}
