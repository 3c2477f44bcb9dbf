use Rattle.std.proofs.Common.{◌≡◌, [], List, All, take}
use Rattle.gname.specs.Ids.{Id}
use Rattle.gitwalk.specs.steps.Walking.{HasIdIn, HasNoReceived, IsOpen, IsSentEntry, IsWalkedEntry, StaysDecided}
use Rattle.gitwalk.proofs.walk.Walk.send_trees.Given as goal

abbrev pub invariant-loop-entry : goal.invariant-loop-entry
invariant-loop-entry g l =
    (l.self.received ≡ l.fn.self.received) × (l.fn.self.trees.items ≡ [] → l.self.trees.items ≡ []) × StaysDecided l.fn.self.fates l.self.fates
    × (All (IsSentEntry l.fn.self.fates) l.entries → IsOpen g.S.WalkedStore.has l.entries l.fn.self → IsOpen g.S.WalkedStore.has l.entries l.self)
    × (HasNoReceived l.fn.self → (listed : List Id) → All (HasIdIn listed) l.entries
    → All (IsWalkedEntry g.S.WalkedStore.has listed l.self.fates) (take l.entry-index l.entries))
