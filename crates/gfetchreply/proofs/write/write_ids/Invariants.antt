use Rattle.std.proofs.Common.{drop, map}
use Rattle.ggrammar.specs.Writing.{IsWriting}
use Rattle.gfetchreply.specs.FetchReplies.{ack_packet}
use Rattle.gfetchreply.proofs.write.write_ids.Given as goal

-- the packets of the ids from the current index on remain to be written
abbrev pub invariant-loop-id : goal.invariant-loop-id
invariant-loop-id g l =
    IsWriting g.W.Sink.contents g.W.Sink.passed_on g.W.Sink.is_down g.W.Sink.loans l.initial.writer l.writer (map ack_packet l.ids) (map ack_packet (drop l.id-index l.ids))
