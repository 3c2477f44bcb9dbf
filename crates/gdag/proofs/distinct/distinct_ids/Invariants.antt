use Rattle.std.proofs.Common.{◌≡◌, drop}
use Rattle.gdag.specs.Levels.{distinct_of}
use Rattle.gdag.proofs.IdLists.{with_new}
use Rattle.gdag.proofs.distinct.distinct_ids.Given as goal

abbrev pub invariant-loop-id : goal.invariant-loop-id
invariant-loop-id g l = with_new l.seen.keys (drop l.id-index l.ids) ≡ distinct_of l.ids
