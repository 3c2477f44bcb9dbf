-- The prefixes so far are the same.
use Rattle.std.proofs.Common.{◌≡◌, take}
use Rattle.grequest.proofs.parts.are_same_prefixes.Given as goal

abbrev pub invariant-loop-place : goal.invariant-loop-place
invariant-loop-place g l = take l.place l.left ≡ take l.place l.right
