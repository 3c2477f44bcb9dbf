use Rattle.std.proofs.Common.{take}
use Rattle.gcomplete.specs.steps.Keeping.{Notes}
use Rattle.gcomplete.proofs.needs.NeedMap.note_all.Given as goal

abbrev pub invariant-loop-link : goal.invariant-loop-link
invariant-loop-link g l = Notes l.fn.self l.id (take l.link-index l.links) l.self
