use Rattle.std.proofs.Common.{◌≡◌, [], All, take}
use Rattle.gitwalk.specs.StoredTrees.{LeadsToKnown}
use Rattle.gitwalk.specs.steps.Walking.{LooksUp}
use Rattle.gitwalk.proofs.prerequisites.check_trees.Given as goal

abbrev pub invariant-loop-link : goal.invariant-loop-link
invariant-loop-link g l =
    (l.walk.received.now ≡ l.received) × (l.walk.trees.items ≡ []) × LooksUp g.S.WalkedStore.has g.S.WalkedStore.located l.walk
    × All (LeadsToKnown l.walk.fates l.received) (take l.link-index l.prerequisites)
