use Rattle.std.proofs.Common.{◌≡◌, ℕ, List, ◌++◌, length}
use Rattle.gzlib.specs.Adler.{HasAdlerOf}
use Rattle.gzlib.proofs.adler.Adler32.update.Given as goal

-- all bytes before `rest` have been added
abbrev pub invariant-loop-part : goal.invariant-loop-part
invariant-loop-part l =
    (m : List ℕ) → HasAdlerOf l.fn.self m → (done : List ℕ) × HasAdlerOf l.self done × (done ++ l.rest ≡ m ++ l.bytes)

abbrev pub decreases-loop-part : goal.decreases-loop-part
decreases-loop-part l = length l.rest
