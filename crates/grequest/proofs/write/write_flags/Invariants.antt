-- The packets of the rows from the current index on remain to be written.
use Rattle.std.proofs.Common.{drop}
use Rattle.ggrammar.specs.Writing.{IsWriting}
use Rattle.grequest.specs.Flags.{flags_at}
use Rattle.grequest.specs.steps.Flags.{table_in}
use Rattle.grequest.specs.RequestWriting.{flags_packets}
use Rattle.grequest.proofs.write.write_flags.Given as goal

abbrev pub invariant-loop-flag : goal.invariant-loop-flag
invariant-loop-flag g l =
    IsWriting g.W.Sink.contents g.W.Sink.passed_on g.W.Sink.is_down g.W.Sink.loans l.initial.writer l.writer
    (flags_packets (table_in l.table) (flags_at g.F.Flag.number (table_in l.table) l.flags))
    (flags_packets (table_in (drop l.flag-index l.table)) (flags_at g.F.Flag.number (table_in (drop l.flag-index l.table)) l.flags))
