use Rattle.std.proofs.Common.{◌≡◌, length}
use Rattle.gzlib.specs.Crc.{register_after}
use Rattle.gzlib.proofs.crc.Crc32.update.Given as goal

-- processing `rest` from the current register gives the register after all bytes
abbrev pub invariant-loop-eight : goal.invariant-loop-eight
invariant-loop-eight l = register_after l.register l.rest ≡ register_after l.self.register l.bytes

abbrev pub decreases-loop-eight : goal.decreases-loop-eight
decreases-loop-eight l = length l.rest
