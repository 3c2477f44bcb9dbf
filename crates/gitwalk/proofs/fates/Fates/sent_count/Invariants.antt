use Rattle.std.proofs.Common.{◌≡◌, ◌≤◌, take}
use Rattle.gitwalk.specs.Gathering.{sent_count}
use Rattle.gitwalk.proofs.fates.Fates.sent_count.Given as goal

abbrev pub invariant-loop-number : goal.invariant-loop-number
invariant-loop-number g l = (l.count ≡ sent_count (take l.number l.self)) × (l.count ≤ l.number)
