-- A pack that is built in memory and returned in parts.
use Rattle.std.specs.Prelude.{◌≡◌, ◌≤◌, ℕ, List, [], ◌++◌, length, take}

-- the call moves `count` bytes from the front of `old` to the front of `out`; `count` is 0 only if no bytes remain
pub record TakesSome (old new : List ℕ) (count : ℕ) (out : List ℕ) : Type 0 where
  pub fits : count ≤ length out
  pub parts : old ≡ take count out ++ new
  pub all : count ≡ 0 → old ≡ []
