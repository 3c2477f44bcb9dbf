use Rattle.std.proofs.Common.{ℕ, ◌≡◌, false, take}
use Rattle.gwalk.specs.steps.Passes.{IsPositionOf, is_marked}
use Rattle.gwalk.proofs.ordered.up.has_marked.Given as goal

abbrev pub invariant-loop-id : goal.invariant-loop-id
invariant-loop-id g l = (p : ℕ) → IsPositionOf l.graph.entries (take l.id-index l.ids) p → is_marked l.marks p ≡ false
