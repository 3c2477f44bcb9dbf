use Rattle.std.proofs.Common.{◌≤◌, length, refl, arith}
use Rattle.std.proofs.lemmas.List.{take_all}
use Rattle.gdag.proofs.graph.Graph.holds_parents.Goals as goal

pub returns-clause-answer : goal.returns-clause-answer
returns-clause-answer g c =
    let past : length c.args.self.now.entries ≤ c.loop-position.position = let n = c.len-position-end.ensures.len in omega (arith, c.loop-position-test.false) in
    let all = rw (take_all c.loop-position.position c.args.self.now.entries past) at c.loop-position.invariant in
    (λ t. all, λ each. refl)
