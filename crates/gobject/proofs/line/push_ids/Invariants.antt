use Rattle.std.proofs.Common.{◌≡◌, ◌++◌, take}
use Rattle.gobject.specs.PlainPackText.{ids_text}
use Rattle.gobject.proofs.line.push_ids.Given as goal

abbrev pub invariant-loop-id : goal.invariant-loop-id
invariant-loop-id g l = l.text.items ≡ l.initial.text.items ++ ids_text (take l.id-index l.ids)
