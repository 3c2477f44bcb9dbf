use Rattle.std.proofs.Common.{◌≡◌, ℕ, ◌<◌, List, slice_index_or}
use Rattle.gitcommitgraph.specs.steps.Rows.{row_name}
use Rattle.gitcommitgraph.proofs.contents.are_distinct.Given as goal

abbrev pub invariant-loop-place : goal.invariant-loop-place
invariant-loop-place l =
    (i j : ℕ) (d : List ℕ) → i < j → j < l.place → row_name (slice_index_or l.rows i d) ≡ row_name (slice_index_or l.rows j d) → ⊥
