use Rattle.std.proofs.Common.{◌≡◌, ◌+◌, length, take}
use Rattle.gobject.specs.PlainPackText.{ids_text}
use Rattle.gobject.proofs.plain_pack.write.room_after_ids.Given as goal

abbrev pub invariant-loop-id : goal.invariant-loop-id
invariant-loop-id l = l.left + length (ids_text (take l.id-index l.ids)) ≡ l.fn.room
