use Rattle.std.proofs.Common.{◌≡◌, ◌+◌, ◌*◌, ◌^◌, ◌≤◌, take, sum}
use Rattle.gzlib.specs.Adler.{sum_of_sums}
use Rattle.gzlib.proofs.adler.Adler32.update_part.Given as goal

abbrev pub invariant-loop-byte : goal.invariant-loop-byte
invariant-loop-byte l =
    (l.low ≡ l.self.low + sum (take l.byte-index l.bytes))
    × (l.high ≡ l.self.high + sum_of_sums l.self.low (take l.byte-index l.bytes))
    × (l.low ≤ 2 ^ 32 + 255 * l.byte-index) × (l.high ≤ 2 ^ 32 + (2 ^ 32 + 255 * 5552) * l.byte-index)
