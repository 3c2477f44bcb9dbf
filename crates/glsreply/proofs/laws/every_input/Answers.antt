use Rattle.glsreply.specs.LsReplies.{brings, judge}
use Rattle.glsreply.proofs.LawLemmas.{refuses_packets}
use Rattle.glsreply.proofs.laws.every_input.Goals as goal

pub returns-clause-packets : goal.returns-clause-packets
returns-clause-packets c = refuses_packets

pub returns-clause-bytes : goal.returns-clause-bytes
returns-clause-bytes c = λ format ends.
    (c.messages_are_read.ensures (judge format ends)).every (c.endings.ensures.endings format ends)
    (refuses_packets format ends) brings
