-- The lines from the current index on remain to be written.
use Rattle.std.proofs.Common.{drop}
use Rattle.ggrammar.specs.Writing.{IsWriting}
use Rattle.glsreply.proofs.WritingLemmas.{coming}
use Rattle.glsreply.proofs.writer.write_refs.Given as goal

abbrev pub invariant-loop-line : goal.invariant-loop-line
invariant-loop-line g l =
    IsWriting g.W.Sink.contents g.W.Sink.passed_on g.W.Sink.is_down g.W.Sink.loans l.initial.writer l.writer (coming l.ends l.lines) (coming l.ends (drop l.line-index l.lines))
