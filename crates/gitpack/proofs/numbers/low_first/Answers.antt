use Rattle.std.proofs.Common.{◌≡◌, ◌*◌, ◌≤◌, ◌%◌, get_or, ap, arith}
use Rattle.std.proofs.Math.Nat.{mul-le-mul_left}
use Rattle.gitpack.proofs.NumberLemmas.{low_first-more, pow_56, pow_more}
use Rattle.gitpack.proofs.numbers.low_first.Goals as goal

pub overflow_add-number : goal.overflow_add-number
overflow_add-number c =
    let inv = c.loop-byte.invariant in
    let small = pow_56 c.loop-byte.byte-index (omega arith) in
    let digit : c.from.result ≤ 127 = omega (arith, c.from.ensures) in
    let m = mul-le-mul_left c.loop-byte.unit digit in
    omega (arith, inv.1, inv.2, small, m)

pub loop-byte-preserved : goal.loop-byte-preserved
loop-byte-preserved c =
    let inv = c.loop-byte.invariant in
    let unit = c.loop-byte.unit in
    let i = c.loop-byte.byte-index in
    let more = low_first-more c.args.bytes.now i (omega arith) in
    let digit : c.from.result ≡ get_or c.args.bytes.now i 0 % 128 = c.from.ensures in
    let below : c.from.result ≤ 127 = omega (arith, digit) in
    let m = mul-le-mul_left unit below in
    let one = ap (λ v. v * unit) digit in
    let two = ap (λ v. (get_or c.args.bytes.now i 0 % 128) * v) inv.1 in
    let next = ap (λ v. unit * v) c.from-unit.ensures in
    let p = pow_more i in (
      omega (arith, inv.0, more, one, two),
      omega (arith, inv.1, next, p),
      omega (arith, inv.2, m, next),
    )

pub returns-clause-bound : goal.returns-clause-bound
returns-clause-bound c =
    let inv = c.loop-byte.invariant in
    let small = pow_56 c.loop-byte.byte-index (omega arith) in
    omega (arith, inv.1, inv.2, small)
