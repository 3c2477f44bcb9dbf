use Rattle.std.proofs.Common.{◌≡◌, [], List, All, take}
use Rattle.gobject.specs.declared.node.Entry.{Entry}
use Rattle.gitwalk.specs.Gathering.{IsDecided, IsParent}
use Rattle.gitwalk.specs.steps.Walking.{HasNoReceived, IsOpen, StaysDecided}
use Rattle.gitwalk.proofs.walk.Walk.leave_out_ids.Given as goal

abbrev pub invariant-loop-id : goal.invariant-loop-id
invariant-loop-id g l =
    (l.self.received ≡ l.fn.self.received) × (l.fn.self.trees.items ≡ [] → l.self.trees.items ≡ []) × StaysDecided l.fn.self.fates l.self.fates
    × ((entries : List (Entry g.row.A.Denot)) → All (IsParent entries) l.parents → IsOpen g.S.WalkedStore.has entries l.fn.self → IsOpen g.S.WalkedStore.has entries l.self)
    × (HasNoReceived l.fn.self → All (IsDecided l.self.fates) (take l.id-index l.parents))
