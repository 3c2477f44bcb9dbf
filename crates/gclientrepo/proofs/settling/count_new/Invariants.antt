use Rattle.std.proofs.Common.{◌≡◌, count_by, take}
use Rattle.gclientrepo.specs.Settling.{is_new}
use Rattle.gclientrepo.proofs.settling.count_new.Given as goal

abbrev pub invariant-loop-place : goal.invariant-loop-place
invariant-loop-place g l = l.count ≡ count_by (is_new l.refs) (take l.place l.asks)
