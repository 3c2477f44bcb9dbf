use Rattle.grequest.proofs.laws.reads_back.Goals as goal

pub returns : goal.returns
returns c = λ limits format.
    c.kinds_are_read.ensures.back_if_any (limits, format) (c.one_meaning.ensures.whole limits format) (c.one_meaning.ensures.one limits format) (c.canonical_says.ensures limits format)
