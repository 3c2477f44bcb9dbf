use Rattle.std.proofs.Common.{ℕ, ◌≤◌, take}
use Rattle.gwalk.specs.steps.Passes.{IsPositionOf}
use Rattle.gwalk.proofs.ordered.marks.first_of.Given as goal

abbrev pub invariant-loop-id : goal.invariant-loop-id
invariant-loop-id g l = record {
  first : (p : ℕ) → IsPositionOf l.graph.entries (take l.id-index l.ids) p → l.first ≤ p;
  most : l.first ≤ l.end;
}
