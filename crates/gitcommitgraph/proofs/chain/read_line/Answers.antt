use Rattle.std.proofs.Common.{arith}
use Rattle.gitcommitgraph.proofs.LineLemmas.{line_is, no_line}
use Rattle.gitcommitgraph.proofs.chain.read_line.Goals as goal

pub returns-in-Ok : goal.returns-in-Ok
returns-in-Ok c = line_is c.in-Ok.id c.args.line.now (omega arith) c.if-line-ne10.false c.in-Ok.ensures.0

pub returns-in-Err : goal.returns-in-Err
returns-in-Err c id is = no_line c.texts_have_one_reading.ensures c.in-Err.field-0 c.args.line.now c.in-Err.ensures id is
