use Rattle.std.proofs.Common.{rules}
use Rattle.std.proofs.lemmas.Fn.{always_returns_same}
use Rattle.gitcommitgraph.specs.Texts.{begins_within}
use Rattle.gitcommitgraph.proofs.OrderLemmas.{counts, parted}
use Rattle.gitcommitgraph.proofs.tables.ids_within.Goals as goal

pub returns : goal.returns
returns c =
    let split = parted c.args.byte c.args.ids.now c.requires in
    counts (begins_within c.args.byte) c.args.ids.now c.partition_point.result split
    (c.partition_point.ensures.partitioned (begins_within c.args.byte) (always_returns_same _ _ _ (λ a r g called. (search rules, search rules))) split)
    c.partition_point.ensures.bound
