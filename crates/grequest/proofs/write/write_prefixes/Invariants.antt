-- The packets of the prefixes from the current index on remain to be written.
use Rattle.std.proofs.Common.{drop, map}
use Rattle.ggrammar.specs.Writing.{IsWriting}
use Rattle.grequest.specs.RequestWriting.{prefix_packet}
use Rattle.grequest.proofs.write.write_prefixes.Given as goal

abbrev pub invariant-loop-prefix : goal.invariant-loop-prefix
invariant-loop-prefix g l =
    IsWriting g.W.Sink.contents g.W.Sink.passed_on g.W.Sink.is_down g.W.Sink.loans l.initial.writer l.writer (map prefix_packet l.prefixes) (map prefix_packet (drop l.prefix-index l.prefixes))
