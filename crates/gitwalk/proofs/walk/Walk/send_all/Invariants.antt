use Rattle.std.proofs.Common.{◌≡◌, [], All, take}
use Rattle.gitwalk.specs.steps.Walking.{HasNoReceived, IsOnlyListed, IsSentEntry}
use Rattle.gitwalk.proofs.walk.Walk.send_all.Given as goal

abbrev pub invariant-loop-entry : goal.invariant-loop-entry
invariant-loop-entry g l =
    (l.self.received ≡ l.fn.self.received) × (l.self.trees.items ≡ l.fn.self.trees.items)
    × (HasNoReceived l.fn.self → l.fn.self.fates ≡ []
    → IsOnlyListed l.entries l.self.fates × All (IsSentEntry l.self.fates) (take l.entry-index l.entries))
