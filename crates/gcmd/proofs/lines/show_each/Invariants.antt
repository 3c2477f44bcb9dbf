use Rattle.gcmd.proofs.LinesLemmas.{IsShowing}
use Rattle.gcmd.proofs.lines.show_each.Given as goal

abbrev pub invariant-loop-count : goal.invariant-loop-count
invariant-loop-count g l =
    IsShowing g.S.Source g.W.Sink l.initial.reader l.reader l.initial.output l.output l.count
