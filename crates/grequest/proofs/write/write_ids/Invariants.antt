-- The packets of the ids from the current index on remain to be written.
use Rattle.std.proofs.Common.{drop, map}
use Rattle.ggrammar.specs.Writing.{IsWriting}
use Rattle.grequest.specs.RequestWriting.{id_packet}
use Rattle.grequest.proofs.write.write_ids.Given as goal

abbrev pub invariant-loop-id : goal.invariant-loop-id
invariant-loop-id g l =
    IsWriting g.W.Sink.contents g.W.Sink.passed_on g.W.Sink.is_down g.W.Sink.loans l.initial.writer l.writer (map (id_packet l.word) l.ids) (map (id_packet l.word) (drop l.id-index l.ids))
