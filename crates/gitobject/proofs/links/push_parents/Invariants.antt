use Rattle.std.proofs.Common.{◌≡◌, List, ◌++◌, length}
use Rattle.gname.specs.Ids.{Id}
use Rattle.gitobject.specs.Links.{HasParents}
use Rattle.gitobject.proofs.links.push_parents.Given as goal

abbrev pub invariant-loop-line : goal.invariant-loop-line
invariant-loop-line g l =
    (done : List Id) × (l.parents.items ≡ l.initial.parents.items ++ done)
    × ((ids : List Id) → HasParents l.rest ids → HasParents l.text (done ++ ids))
    × ((ids : List Id) → HasParents l.text ids → (more : List Id) × HasParents l.rest more)

abbrev pub decreases-loop-line : goal.decreases-loop-line
decreases-loop-line g l = length l.rest
