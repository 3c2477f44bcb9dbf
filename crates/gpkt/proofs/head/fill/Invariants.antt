use Rattle.std.proofs.Common.{◌≡◌, ◌≤◌, ◌<◌, ◌-◌, false, length, take}
use Rattle.std.specs.Io.KnownBytes.{Consumes}
use Rattle.gpkt.proofs.head.fill.Given as goal

abbrev pub invariant-loop-at : goal.invariant-loop-at
invariant-loop-at g l = record {
  same_len : length l.buf ≡ length l.initial.buf;
  within : l.at ≤ length l.buf;
  consumed : Consumes (g.S.Source.remaining l.initial.source) (g.S.Source.remaining l.source) (take l.at l.buf);
  asked : 0 < l.at → g.S.Source.is_down l.source ≡ false;
  same_loans : g.S.Source.loans l.source ≡ g.S.Source.loans l.initial.source;
}

abbrev pub decreases-loop-at : goal.decreases-loop-at
decreases-loop-at g l = length l.initial.buf - l.at
