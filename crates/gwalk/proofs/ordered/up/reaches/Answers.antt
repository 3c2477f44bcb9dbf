use Rattle.std.proofs.Common.{ap, length, arith}
use Rattle.gwalk.proofs.Rising.{any_one}
use Rattle.gwalk.proofs.ordered.up.reaches.Goals as goal

pub is_good-requires-clause-inside : goal.is_good-requires-clause-inside
is_good-requires-clause-inside g c =
    let same = ap length c.as_slice.ensures.value in
    λ p x. (let h = c.end_of.ensures.below p x in omega (arith, c.in_ok-good.ensures.long))

pub returns-clause-answer : goal.returns-clause-answer
returns-clause-answer g c =
    let one = any_one c.args.graph.now.entries c.args.a.now c.args.b.now in
    (λ t. one.0 (c.is_good.ensures.0 t), λ way. c.is_good.ensures.1 (one.1 way))
