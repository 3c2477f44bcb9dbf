use Rattle.gzlib.proofs.CrcLemmas.{eight_bytes}
use Rattle.std.proofs.Common.{rules, arith}
use Rattle.gzlib.proofs.crc.next_eight.Goals as goal

pub returns : goal.returns
returns c =
    rw (
      c.after_8.ensures,
      c.after_7.ensures,
      c.after_6.ensures,
      c.after_5.ensures,
      c.after_4.ensures,
      c.after_3.ensures,
      c.after_2.ensures,
      c.after_1.ensures,
      c.low_byte.ensures,
      c.low_byte-2.ensures,
      c.low_byte-3.ensures,
      c.low_byte-4.ensures,
    ) (eight_bytes c.args.register c.args.bytes.now (search rules) (search rules) (λ i. search (rules, arith)))
