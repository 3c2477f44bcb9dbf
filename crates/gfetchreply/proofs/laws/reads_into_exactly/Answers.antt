use Rattle.gfetchreply.proofs.ReplyLemmas.{into_only_said, into_where_said}
use Rattle.gfetchreply.proofs.laws.reads_into_exactly.Goals as goal

pub returns-clause-said : goal.returns-clause-said
returns-clause-said g c = λ reading.
    into_where_said g.T.PackSink.refuses reading g.T.PackSink.taken
    (c.kinds_are_read.ensures.exactly (g.T.PackSink.refuses, reading) (c.one_meaning.ensures.whole reading) (c.one_meaning.ensures.meaning reading))

pub returns-clause-only : goal.returns-clause-only
returns-clause-only g c = λ reading.
    into_only_said g.T.PackSink.refuses reading g.T.PackSink.taken
    (c.kinds_are_read.ensures.exactly (g.T.PackSink.refuses, reading) (c.one_meaning.ensures.whole reading) (c.one_meaning.ensures.meaning reading))
