use Rattle.glsreply.proofs.laws.reads_exactly.Goals as goal

pub returns : goal.returns
returns c = λ format ends. c.kinds_are_read.ensures.exactly (format, ends) (c.says_whole.ensures format ends) (c.one_meaning.ensures format ends)
