use Rattle.std.proofs.Common.{◌≡◌, ◌≤◌, ◌-◌, length, take}
use Rattle.std.specs.Io.KnownBytes.{Appends}
use Rattle.gpair.proofs.message.write_front.Given as goal

abbrev pub invariant-loop-count : goal.invariant-loop-count
invariant-loop-count g l = record {
  within : l.count ≤ length l.bytes;
  bytes : Appends (g.W.Sink.contents l.initial.sink) (g.W.Sink.contents l.sink) (take l.count l.bytes);
  same_loans : g.W.Sink.loans l.sink ≡ g.W.Sink.loans l.initial.sink;
}

abbrev pub decreases-loop-count : goal.decreases-loop-count
decreases-loop-count g l = length l.bytes - l.count
