use Rattle.std.proofs.Common.{◌+◌, ◌*◌, ◌∙◌, slice_index, arith}
use Rattle.hex.proofs.Pairs.{decode_start, decode_step, decode_done, decode_sized-pairs}
use Rattle.gname.proofs.DigitLemmas.{pair_read}
use Rattle.gname.proofs.digits.read_digits.Goals as goal

pub bytes-init : goal.bytes-init
bytes-init c = decode_start c.args.text.now c.args.out.now

pub bytes-preserved : goal.bytes-preserved
bytes-preserved c =
    let first = c.digit_value-high.ensures (omega arith) in
    let second = c.digit_value-low.ensures (omega arith) in
    decode_step c.args.text.now c.bytes.out c.bytes.i _ (omega arith) (omega arith)
    (pair_read (slice_index c.args.text.now (2 * c.bytes.i)) (slice_index c.args.text.now (2 * c.bytes.i + 1)) (2 * c.bytes.i) _ _ first second) c.bytes.invariant

pub returns : goal.returns
returns c = λ _.
    decode_sized-pairs c.args.text.now _ (omega arith) (omega arith)
    ∙ decode_done c.args.text.now c.bytes.out c.bytes.i (omega arith) (omega arith) c.bytes.invariant
