use Rattle.std.proofs.Common.{arith}
use Rattle.gitpack.specs.Indexes.{entry_id}
use Rattle.gitpack.proofs.SortLemmas.{no_id_between}
use Rattle.gitpack.proofs.index.is_gap.Goals as goal

pub returns-then-is_less_at : goal.returns-then-is_less_at
returns-then-is_less_at c = λ answer.
    let before = c.saturating_sub.ensures in
    let low = c.is_less_at.ensures c.if-is_less_at.true in
    let high = c.is_greater_at.ensures answer in
    no_id_between entry_id c.args.entries.now c.args.id.now c.saturating_sub.result c.args.place c.requires.sorted (omega (arith, before)) low.0 low.1 high.1
