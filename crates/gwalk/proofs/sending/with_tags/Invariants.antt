use Rattle.std.proofs.Common.{take}
use Rattle.gwalk.specs.steps.Tags.{AreTagged}
use Rattle.gwalk.proofs.sending.with_tags.Given as goal

abbrev pub invariant-loop-tip : goal.invariant-loop-tip
invariant-loop-tip g l = AreTagged l.graph.entries l.new (take l.tip-index l.tips) l.marks.items
