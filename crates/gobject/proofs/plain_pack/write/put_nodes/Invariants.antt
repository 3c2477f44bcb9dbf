use Rattle.std.proofs.Common.{◌≡◌, ◌++◌, take}
use Rattle.gobject.specs.steps.PlainPackWriting.{nodes_text}
use Rattle.gobject.proofs.plain_pack.write.put_nodes.Given as goal

abbrev pub invariant-loop-entry : goal.invariant-loop-entry
invariant-loop-entry g l = l.text.items ≡ l.initial.text.items ++ nodes_text (take l.entry-index l.entries)
