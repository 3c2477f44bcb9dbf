-- Definitions for private functions and proofs: the remaining time of a client of the server.
use Rattle.std.specs.Prelude.{◌≡◌, ◌⊎◌, ◌<◌, ◌≤◌, ◌+◌, ◌-◌, ℕ, Option, None, Some}

-- ---- times, in nanoseconds

-- the time limit for a first line, counted from the accept
abbrev pub first_line_time : ℕ
first_line_time = 10_000_000_000

-- the time limit for a request, counted from the moment when the server starts to wait for the request
abbrev pub request_time : ℕ
request_time = 60_000_000_000

-- ---- remainders

-- The time that remains at the moment `now`: the time that remained at the moment `at`, minus the time since `at`. No
-- time remains if the remaining time has elapsed, or if the clock went backwards.
abbrev pub LeavesOf : ℕ × ℕ → ℕ → Option (ℕ × ℕ) → Type 0
LeavesOf (left, at) now (Some (rest, moment)) =
    (moment ≡ now) × (at ≤ now) × (rest + (now - at) ≡ left) × (0 < rest)
LeavesOf (left, at) now None = (now < at) ⊎ (left ≤ now - at)
