use Rattle.std.proofs.Common.{◌≡◌, ◌+◌, ◌<◌, ◌^◌, ◌∷◌, take}
use Rattle.gitpack.specs.Numbers.{high_first}
use Rattle.gitpack.proofs.numbers.high_first.Given as goal

abbrev pub invariant-loop-byte : goal.invariant-loop-byte
invariant-loop-byte l =
    (l.number ≡ high_first (l.fn.first ∷ take l.byte-index l.more)) × (l.number < 256 ^ (l.byte-index + 1))
