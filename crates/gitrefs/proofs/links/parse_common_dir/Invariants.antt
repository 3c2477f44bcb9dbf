use Rattle.std.proofs.Common.{◌≡◌, ℕ, List, ◌++◌, All, length, true}
use Rattle.gitrefs.specs.Links.{is_line_end}
use Rattle.gitrefs.proofs.links.parse_common_dir.Given as goal

abbrev pub invariant-loop-last : goal.invariant-loop-last
invariant-loop-last l =
    (ends : List ℕ) × (l.text ≡ l.path ++ ends) × All (λ b. is_line_end b ≡ true) ends

abbrev pub decreases-loop-last : goal.decreases-loop-last
decreases-loop-last l = length l.path
