use Rattle.std.proofs.Common.{take, All}
use Rattle.gcomplete.specs.Batches.{KeepsTypes}
use Rattle.gitrepository.specs.steps.Arriving.{IsNeeded}
use Rattle.gitrepository.proofs.needs.Needs.note_all.Given as goal

abbrev pub invariant-loop-link : goal.invariant-loop-link
invariant-loop-link g l = All (IsNeeded l.self) (take l.link-index l.links) × KeepsTypes l.fn.self l.self
