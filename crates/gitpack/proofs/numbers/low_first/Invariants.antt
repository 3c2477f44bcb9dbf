use Rattle.std.proofs.Common.{◌≡◌, ◌<◌, ◌^◌, take}
use Rattle.gitpack.specs.Numbers.{low_first}
use Rattle.gitpack.proofs.numbers.low_first.Given as goal

abbrev pub invariant-loop-byte : goal.invariant-loop-byte
invariant-loop-byte l =
    (l.number ≡ low_first (take l.byte-index l.bytes)) × (l.unit ≡ 128 ^ l.byte-index) × (l.number < l.unit)
