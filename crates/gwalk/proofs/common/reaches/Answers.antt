use Rattle.gwalk.proofs.Rising.{any_one}
use Rattle.gwalk.proofs.common.reaches.Goals as goal
use Rattle.std.proofs.Common.{◌∷◌, []}

pub returns-clause-answer : goal.returns-clause-answer
returns-clause-answer g c =
    let answer = c.in_ok-reached_by.ensures (c.args.b.now ∷ []) c.in_ok-goals.ensures in
    let one = any_one c.args.graph.now.entries c.args.a.now c.args.b.now in
    (λ t. one.0 (answer.0 t), λ r. answer.1 (one.1 r))
