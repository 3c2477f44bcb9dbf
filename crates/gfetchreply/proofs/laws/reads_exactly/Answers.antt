use Rattle.std.proofs.Common.{true}
use Rattle.gfetchreply.proofs.laws.reads_exactly.Goals as goal

pub returns : goal.returns
returns c = λ reading.
    c.kinds_are_read.ensures.exactly (true, reading) (c.one_meaning.ensures.whole reading) (c.one_meaning.ensures.meaning reading)
