use Rattle.std.proofs.Common.{◌≡◌, ◌≤◌, take, length}
use Rattle.gobject.specs.Objects.{max_parents}
use Rattle.ggraph.proofs.TextLemmas.{IdsSoFar}
use Rattle.ggraph.proofs.text.parts.read_parents.Given as goal

abbrev pub invariant-loop-rest : goal.invariant-loop-rest
invariant-loop-rest l =
    IdsSoFar l.fn.format l.text (take l.count l.ids) l.rest × (l.count ≤ max_parents) × (length l.ids ≡ 64)

abbrev pub decreases-loop-rest : goal.decreases-loop-rest
decreases-loop-rest l = length l.rest
