use Rattle.glsreply.specs.LsReplies.{judge}
use Rattle.glsreply.proofs.laws.prefix_free.Goals as goal

pub returns-clause-packets : goal.returns-clause-packets
returns-clause-packets c = λ format ends. (c.grammars_are_exact.ensures (judge format ends)).one_end

pub returns-clause-spellings : goal.returns-clause-spellings
returns-clause-spellings c = λ format ends. (c.messages_are_read.ensures (judge format ends)).prefix_free
