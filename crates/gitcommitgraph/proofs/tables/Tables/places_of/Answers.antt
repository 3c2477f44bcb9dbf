use Rattle.std.proofs.Common.{arith}
use Rattle.gitcommitgraph.proofs.OrderLemmas.{between_both, between_first}
use Rattle.gitcommitgraph.proofs.tables.Tables.places_of.Goals as goal

pub returns-then-byte-eq0 : goal.returns-then-byte-eq0
returns-then-byte-eq0 c =
    between_first c.args.byte c.args.self.now.ids.now c.ids_within-end.result c.requires.ascending c.if-byte-eq0.true c.ids_within-end.ensures

pub returns : goal.returns
returns c =
    let some = c.if-byte-eq0.false in
    between_both c.args.byte c.args.self.now.ids.now c.ids_within.result c.ids_within-end.result c.requires.ascending (omega (arith, some)) c.ids_within.ensures c.ids_within-end.ensures
