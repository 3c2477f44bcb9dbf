use Rattle.std.proofs.Common.{◌≡◌, take}
use Rattle.gzlib.specs.Crc.{register_after}
use Rattle.gzlib.proofs.crc.next_few.Given as goal

abbrev pub invariant-loop-byte : goal.invariant-loop-byte
invariant-loop-byte l = l.register ≡ register_after l.fn.register (take l.byte-index l.bytes)
