use Rattle.std.proofs.Common.{◌≡◌, ◌≢◌, ℕ, List, ◌++◌, All, filter, map, length}
use Rattle.std.specs.Prelude.{string_bytes}
use Rattle.gitobjects.specs.Alternates.{names_folder}
use Rattle.gitobjects.specs.Parts.{ended_by}
use Rattle.gitobjects.proofs.alternates.folder_names.Given as goal

abbrev pub invariant-loop-line : goal.invariant-loop-line
invariant-loop-line g l =
    (done : List (List ℕ)) × (l.text ≡ ended_by 10 done ++ l.rest) × All (All (λ b. b ≢ 10)) done
    × (map string_bytes l.names.items ≡ filter names_folder done)

abbrev pub decreases-loop-line : goal.decreases-loop-line
decreases-loop-line g l = length l.rest
