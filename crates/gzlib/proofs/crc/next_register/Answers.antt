use Rattle.std.proofs.Common.{rules, ap}
use Rattle.std.specs.Prelude.{bit_xor}
use Rattle.gzlib.proofs.CrcLemmas.{next_by_table}
use Rattle.gzlib.proofs.crc.next_register.Goals as goal

pub returns : goal.returns
returns c = rw c.after_1.ensures (next_by_table c.args.register c.args.byte _ (search rules) (ap (bit_xor c.args.byte) c.low_byte.ensures))
