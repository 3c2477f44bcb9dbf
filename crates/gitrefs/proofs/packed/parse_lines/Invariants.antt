use Rattle.std.proofs.Common.{◌≡◌, List, ◌++◌, filter, length, map}
use Rattle.gitrefs.specs.PackedRefs.{HasPackedLines, PackedLine, line_of, names_ref}
use Rattle.gitrefs.proofs.packed.parse_lines.Given as goal

abbrev pub invariant-loop-rest : goal.invariant-loop-rest
invariant-loop-rest g l =
    (done : List PackedLine) × (map line_of l.refs.items ≡ filter names_ref done)
    × ((more : List PackedLine) → HasPackedLines l.rest more → HasPackedLines l.text (done ++ more))
    × ((lines : List PackedLine) → HasPackedLines l.text lines → (more : List PackedLine) × HasPackedLines l.rest more)

abbrev pub decreases-loop-rest : goal.decreases-loop-rest
decreases-loop-rest g l = length l.rest
