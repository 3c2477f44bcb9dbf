use Rattle.std.proofs.Common.{ℕ, ◌≤◌, ◌<◌, length, take}
use Rattle.gwalk.specs.steps.Passes.{IsPositionOf}
use Rattle.gwalk.proofs.ordered.marks.end_of.Given as goal

abbrev pub invariant-loop-id : goal.invariant-loop-id
invariant-loop-id g l = record {
  below : (p : ℕ) → IsPositionOf l.graph.entries (take l.id-index l.ids) p → p < l.end;
  fits : l.end ≤ length l.graph.entries;
}
