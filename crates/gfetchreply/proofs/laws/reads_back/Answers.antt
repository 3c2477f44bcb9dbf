use Rattle.std.proofs.Common.{true}
use Rattle.gfetchreply.proofs.laws.reads_back.Goals as goal

pub returns : goal.returns
returns c = λ reading within.
    c.kinds_are_read.ensures.back (true, reading) (c.one_meaning.ensures.whole reading) (c.one_meaning.ensures.meaning reading) (c.canonical_says.ensures reading within)
