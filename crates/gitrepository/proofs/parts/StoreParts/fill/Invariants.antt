use Rattle.std.proofs.Common.{◌≡◌, ◌+◌, ◌≤◌, ◌++◌, ℕ, List, length, take}
use Rattle.gitrepository.specs.Parts.{IsGoing}
use Rattle.gitrepository.proofs.parts.StoreParts.fill.Given as goal

-- `filled` bytes were returned so far, at the front of the buffer `out`
abbrev pub invariant-loop : goal.invariant-loop
invariant-loop g l =
    (l.filled ≤ length l.out) × (l.self.outgoing.left + l.filled ≡ l.initial.self.outgoing.left)
    × ((total : ℕ) (before : List ℕ) → IsGoing total l.initial.self.outgoing before
    → IsGoing total l.self.outgoing (before ++ take l.filled l.out))
