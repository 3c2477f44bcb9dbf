use Rattle.std.proofs.Common.{◌≡◌, ℕ, ◌≤◌, false, List, ◌++◌, length}
use Rattle.gitconfig.specs.Values.{HasPieces, mark_pieces}
use Rattle.gitconfig.specs.declared.pieces.Piece.{Piece}
use Rattle.gitconfig.specs.steps.Readings.{IsValueSoFar}
use Rattle.gitconfig.proofs.reading.read_value.Given as goal

abbrev pub invariant-loop-piece : goal.invariant-loop-piece
invariant-loop-piece g l =
    (done : List Piece) × IsValueSoFar (mark_pieces done) l.value
    × ((more : List Piece) (after : List ℕ) → HasPieces l.value.is_quoted l.rest more after
    → HasPieces false l.text (done ++ more) after)
    × (length l.rest ≤ length l.text)

abbrev pub decreases-loop-piece : goal.decreases-loop-piece
decreases-loop-piece g l = length l.rest
