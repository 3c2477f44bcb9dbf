use Rattle.gfetchreply.specs.FetchReplies.{judge}
use Rattle.gfetchreply.proofs.laws.prefix_free.Goals as goal

pub returns-clause-packets : goal.returns-clause-packets
returns-clause-packets c = λ reading. (c.grammars_are_exact.ensures (judge reading)).one_end

pub returns-clause-spellings : goal.returns-clause-spellings
returns-clause-spellings c = λ reading. (c.messages_are_read.ensures (judge reading)).prefix_free
