use Rattle.std.proofs.Common.{◌≡◌, ◌+◌, length, take}
use Rattle.gobject.specs.steps.PlainPackWriting.{nodes_text}
use Rattle.gobject.proofs.plain_pack.write.room_after_nodes.Given as goal

abbrev pub invariant-loop-entry : goal.invariant-loop-entry
invariant-loop-entry g l = l.left + length (nodes_text (take l.entry-index l.entries)) ≡ l.fn.room
