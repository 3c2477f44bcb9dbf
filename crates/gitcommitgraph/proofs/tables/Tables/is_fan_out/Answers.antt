use Rattle.std.proofs.Common.{◌∙◌, sym, arith}
use Rattle.gitcommitgraph.proofs.OrderLemmas.{fan_more}
use Rattle.gitcommitgraph.proofs.tables.Tables.is_fan_out.Goals as goal

pub loop-byte-preserved : goal.loop-byte-preserved
loop-byte-preserved c =
    fan_more c.args.self.now.fan_out.now c.args.self.now.ids.now c.loop-byte.byte (omega arith)
    (sym c.number.ensures ∙ c.if-number-ids_within.false ∙ c.ids_within.ensures) c.loop-byte.invariant
