use Rattle.std.proofs.Common.{◌≡◌, ◌≢◌, ℕ, List, ◌++◌, All, map, length}
use Rattle.std.specs.Prelude.{string_bytes}
use Rattle.gitobjects.specs.Listings.{AreStems}
use Rattle.gitobjects.specs.Parts.{ended_by}
use Rattle.gitobjects.proofs.listing.listed_stems.Given as goal

abbrev pub invariant-loop-name : goal.invariant-loop-name
invariant-loop-name g l =
    (done : List (List ℕ)) × (l.names ≡ ended_by 0 done ++ l.rest) × All (All (λ b. b ≢ 0)) done
    × AreStems done (map string_bytes l.stems.items)

abbrev pub decreases-loop-name : goal.decreases-loop-name
decreases-loop-name g l = length l.rest
