use Rattle.gfetchreply.specs.FetchReplies.{brings, judge}
use Rattle.gfetchreply.proofs.ReplyVerdicts.{refuses_packets}
use Rattle.gfetchreply.proofs.laws.every_input.Goals as goal

pub returns-clause-packets : goal.returns-clause-packets
returns-clause-packets c = refuses_packets

pub returns-clause-bytes : goal.returns-clause-bytes
returns-clause-bytes c = λ reading.
    (c.messages_are_read.ensures (judge reading)).every (c.endings.ensures.endings reading) (refuses_packets reading) (brings reading)
