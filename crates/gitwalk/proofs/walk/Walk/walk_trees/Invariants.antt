use Rattle.std.proofs.Common.{◌≡◌, List}
use Rattle.gobject.specs.declared.node.Entry.{Entry}
use Rattle.gitwalk.specs.steps.Walking.{IsOpen, LooksUp, StaysDecided}
use Rattle.gitwalk.proofs.walk.Walk.walk_trees.Given as goal

abbrev pub invariant-loop : goal.invariant-loop
invariant-loop g l =
    (l.self.received ≡ l.fn.self.received) × StaysDecided l.fn.self.fates l.self.fates
    × ((entries : List (Entry g.row.A.Denot)) → IsOpen g.S.WalkedStore.has entries l.fn.self → IsOpen g.S.WalkedStore.has entries l.self)
    × (LooksUp g.S.WalkedStore.has g.S.WalkedStore.located l.fn.self → LooksUp g.S.WalkedStore.has g.S.WalkedStore.located l.self)
