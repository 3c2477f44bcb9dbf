use Rattle.std.proofs.Common.{◌+◌, ◌*◌, ◌∷◌, ◌∙◌, ap, arith}
use Rattle.std.proofs.lemmas.List.{take_all}
use Rattle.gitpack.specs.Numbers.{high_first}
use Rattle.gitpack.proofs.NumberLemmas.{high_first-more, high_first-one, pow_57, pow_more_256}
use Rattle.gitpack.proofs.numbers.high_first.Goals as goal

pub loop-byte-init : goal.loop-byte-init
loop-byte-init c = let one = high_first-one c.args.first in let is = c.from-number.ensures in (omega (arith, one, is), omega (arith, is))

pub overflow_add-number : goal.overflow_add-number
overflow_add-number c =
    let small = pow_57 c.loop-byte.byte-index (omega arith) in let below = c.loop-byte.invariant.1 in omega (arith, small, below)

pub overflow_mul-number : goal.overflow_mul-number
overflow_mul-number c =
    let small = pow_57 c.loop-byte.byte-index (omega arith) in
    let below = c.loop-byte.invariant.1 in
    let unit = ap (λ v. (c.loop-byte.number + 1) * v) c.from.ensures in
    omega (arith, small, below, unit)

pub overflow_add-number-in-loop-byte : goal.overflow_add-number-in-loop-byte
overflow_add-number-in-loop-byte c =
    let small = pow_57 c.loop-byte.byte-index (omega arith) in
    let below = c.loop-byte.invariant.1 in
    let unit = ap (λ v. (c.loop-byte.number + 1) * v) c.from.ensures in
    let digit = c.from-in-loop-byte.ensures in
    omega (arith, small, below, unit, digit)

pub loop-byte-preserved : goal.loop-byte-preserved
loop-byte-preserved c =
    let inv = c.loop-byte.invariant in
    let i = c.loop-byte.byte-index in
    let more = high_first-more c.args.first c.args.more.now i (omega arith) in
    let unit = ap (λ v. (c.loop-byte.number + 1) * v) c.from.ensures in
    let digit = c.from-in-loop-byte.ensures in
    let p = pow_more_256 (i + 1) in
    (omega (arith, inv.0, more, unit, digit), omega (arith, inv.1, unit, digit, p))

pub returns : goal.returns
returns c =
    c.loop-byte.invariant.0
    ∙ ap (λ l. high_first (c.args.first ∷ l)) (take_all c.loop-byte.byte-index c.args.more.now (omega arith))
