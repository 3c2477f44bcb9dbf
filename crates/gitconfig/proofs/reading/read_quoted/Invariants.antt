use Rattle.std.proofs.Common.{◌≡◌, ℕ, ◌≤◌, List, ◌++◌, length}
use Rattle.gitconfig.specs.Configs.{HasQuoted}
use Rattle.gitconfig.proofs.reading.read_quoted.Given as goal

abbrev pub invariant-loop-byte : goal.invariant-loop-byte
invariant-loop-byte g l =
    (done : List ℕ) × (l.name.items ≡ l.initial.name.items ++ done)
    × ((more after : List ℕ) → HasQuoted l.rest more after → HasQuoted l.text (done ++ more) after)
    × (length l.rest ≤ length l.text)

abbrev pub decreases-loop-byte : goal.decreases-loop-byte
decreases-loop-byte g l = length l.rest
