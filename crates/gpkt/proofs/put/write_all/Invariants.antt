use Rattle.std.proofs.Common.{◌≡◌, ◌<◌, ℕ, List, ◌++◌, false, true, length}
use Rattle.std.specs.Io.KnownBytes.{Appends, Keeps}
use Rattle.gpkt.proofs.put.write_all.Given as goal

abbrev pub invariant-loop-rest : goal.invariant-loop-rest
invariant-loop-rest g l = record {
  written : (front : List ℕ) × (l.initial.rest ≡ front ++ l.rest) × Appends (g.W.Sink.contents l.initial.sink) (g.W.Sink.contents l.sink) front;
  passed_on : Keeps (g.W.Sink.passed_on l.initial.sink) (g.W.Sink.passed_on l.sink);
  asked : length l.rest < length l.initial.rest → g.W.Sink.is_down l.sink ≡ false;
  up : g.W.Sink.is_down l.initial.sink ≡ false → g.W.Sink.is_down l.sink ≡ false;
  stays : g.W.Sink.is_down l.initial.sink ≡ true → g.W.Sink.is_down l.sink ≡ true;
  same_loans : g.W.Sink.loans l.sink ≡ g.W.Sink.loans l.initial.sink;
}

abbrev pub decreases-loop-rest : goal.decreases-loop-rest
decreases-loop-rest g l = length l.rest
