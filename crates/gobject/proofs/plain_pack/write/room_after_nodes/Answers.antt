use Rattle.std.proofs.Common.{◌<◌, List, ℕ, length, arith}
use Rattle.gobject.specs.declared.node.Entry.{Entry}
use Rattle.gobject.specs.PlainPackText.{line, node_text}
use Rattle.gobject.proofs.PlainPackWriting.{left_none}
use Rattle.gobject.proofs.plain_pack.write.room_after_nodes.Goals as goal

pub returns-in_err-left : goal.returns-in_err-left
returns-in_err-left g c =
    let f : Entry g.row.A.Denot → List ℕ = λ entry. line (node_text entry) in
    let in_list : c.loop-entry.entry-index < length c.args.entries.now = omega arith in
    rw c.from_residual.ensures (left_none f c.args.entries.now c.loop-entry.entry-index c.entry-item.result c.args.room c.loop-entry.left in_list c.entry-item.is c.loop-entry.invariant c.in_err-left.ensures)
