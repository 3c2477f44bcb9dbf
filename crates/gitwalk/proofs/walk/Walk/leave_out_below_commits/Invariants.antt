use Rattle.std.proofs.Common.{◌≡◌, []}
use Rattle.gitwalk.specs.steps.Walking.{IsOpen, StaysDecided}
use Rattle.gitwalk.proofs.walk.Walk.leave_out_below_commits.Given as goal

abbrev pub invariant-loop-entry : goal.invariant-loop-entry
invariant-loop-entry g l =
    (l.self.received ≡ l.fn.self.received) × (l.fn.self.trees.items ≡ [] → l.self.trees.items ≡ []) × StaysDecided l.fn.self.fates l.self.fates
    × (IsOpen g.S.WalkedStore.has l.entries l.fn.self → IsOpen g.S.WalkedStore.has l.entries l.self)
