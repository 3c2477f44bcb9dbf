use Rattle.gfetchreply.proofs.ReplyLemmas.{back_into}
use Rattle.gfetchreply.proofs.laws.reads_back_into.Goals as goal

pub returns : goal.returns
returns g c = λ reading within.
    back_into g.T.PackSink.refuses reading g.T.PackSink.taken
    (c.kinds_are_read.ensures.back (g.T.PackSink.refuses, reading) (c.one_meaning.ensures.whole reading) (c.one_meaning.ensures.meaning reading) (c.canonical_says.ensures reading within))
