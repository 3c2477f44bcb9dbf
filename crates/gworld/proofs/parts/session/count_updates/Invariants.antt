use Rattle.std.proofs.Common.{◌≡◌, ◌+◌, take, count_by}
use Rattle.gworld.specs.Events.{is_moved, is_same, is_not_forward}
use Rattle.gworld.proofs.parts.session.count_updates.Given as goal

abbrev pub invariant-loop-update : goal.invariant-loop-update
invariant-loop-update g l =
    (l.moved ≡ count_by is_moved (take l.update-index l.update-items))
    × (l.same ≡ count_by is_same (take l.update-index l.update-items))
    × (l.not_forward ≡ count_by is_not_forward (take l.update-index l.update-items))
    × (l.moved + l.same + l.not_forward ≡ l.update-index)
