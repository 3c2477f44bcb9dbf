-- The prefixes so far are copied.
use Rattle.std.proofs.Common.{◌≡◌, take}
use Rattle.grequest.proofs.parts.copy_prefixes.Given as goal

abbrev pub invariant-loop-prefix : goal.invariant-loop-prefix
invariant-loop-prefix g l = l.copies.items ≡ take l.prefix-index l.prefixes
