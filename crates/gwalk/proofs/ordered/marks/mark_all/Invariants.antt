use Rattle.std.proofs.Common.{take}
use Rattle.gwalk.specs.steps.Passes.{MarksAll}
use Rattle.gwalk.proofs.ordered.marks.mark_all.Given as goal

abbrev pub invariant-loop-id : goal.invariant-loop-id
invariant-loop-id g l = MarksAll l.graph.entries (take l.id-index l.ids) l.initial.marks.items l.marks.items
