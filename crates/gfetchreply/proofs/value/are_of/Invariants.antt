use Rattle.std.proofs.Common.{drop}
use Rattle.gfetchreply.proofs.WritingLemmas.{Tells}
use Rattle.gfetchreply.proofs.value.are_of.Given as goal

-- the check of all ids has the result of the check of the ids from the current index on
abbrev pub invariant-loop-id : goal.invariant-loop-id
invariant-loop-id l = Tells l.format l.ids (drop l.id-index l.ids)
