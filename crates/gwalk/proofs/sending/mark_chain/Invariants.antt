use Rattle.gwalk.proofs.Tagging.{HasPassed}
use Rattle.gwalk.proofs.sending.mark_chain.Given as goal

abbrev pub invariant-loop-step : goal.invariant-loop-step
invariant-loop-step g l = HasPassed l.graph.entries l.id l.initial.marks.items l.marks.items l._step l.at
