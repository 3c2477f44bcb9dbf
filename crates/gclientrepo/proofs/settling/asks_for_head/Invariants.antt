use Rattle.std.proofs.Common.{take}
use Rattle.gclientrepo.proofs.SettlingLemmas.{NoHead}
use Rattle.gclientrepo.proofs.settling.asks_for_head.Given as goal

abbrev pub invariant-loop-place : goal.invariant-loop-place
invariant-loop-place g l = NoHead (take l.place l.asks)
