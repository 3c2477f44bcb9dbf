use Rattle.std.proofs.Common.{◌≡◌, ◌-◌, length, arith}
use Rattle.gitobjects.proofs.HeadLemmas.{body_after}
use Rattle.gitobjects.proofs.object.head_of.Goals as goal

pub returns-in-Some-clause-body : goal.returns-in-Some-clause-body
returns-in-Some-clause-body c =
    let count = c.saturating_sub.result in
    let left : count ≡ length c.args.text.now - length c.in-Some.body.now = omega arith in
    body_after c.args.text.now c.in-Some.kind c.in-Some.body.now count c.in-Some.ensures left
