use Rattle.std.proofs.Common.{◌≡◌, ℕ, ◌<◌, List, slice_index_or}
use Rattle.gitcommitgraph.specs.steps.Rows.{row_name}
use Rattle.gitcommitgraph.proofs.contents.place_of.Given as goal

abbrev pub invariant-loop-place : goal.invariant-loop-place
invariant-loop-place l =
    (k : ℕ) (d : List ℕ) → k < l.place → row_name (slice_index_or l.rows k d) ≡ l.name → ⊥
