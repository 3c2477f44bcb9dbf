use Rattle.std.proofs.Common.{take}
use Rattle.gdag.specs.Selecting.{Selects}
use Rattle.gdag.specs.Sending.{IsToSend}
use Rattle.gwalk.proofs.ordered.send.send_list.Given as goal

abbrev pub invariant-loop-position : goal.invariant-loop-position
invariant-loop-position g l = Selects (IsToSend l.graph.entries l.wants l.commons l.tips) (take l.position l.graph.entries) l.list.items
