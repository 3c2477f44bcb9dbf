use Rattle.std.proofs.Common.{arith}
use Rattle.hex.specs.Hex.{lower_digits}
use Rattle.hex.proofs.Pairs.{encode_done, encode_step}
use Rattle.gname.proofs.digits.write_digits.Goals as goal

pub bytes-preserved : goal.bytes-preserved
bytes-preserved c =
    encode_step lower_digits c.args.bytes.now c.bytes.out c.bytes.i _ _ (omega arith) (omega arith)
    c.digit_pair-high.ensures.high c.digit_pair-high.ensures.low c.bytes.invariant

pub returns : goal.returns
returns c = encode_done lower_digits _ _ c.bytes.i (omega arith) (omega arith) c.bytes.invariant
