use Rattle.std.proofs.Common.{ℕ, subst, arith}
use Rattle.gdag.specs.Walks.{CountsReached}
use Rattle.gwalk.proofs.Reached.{misses, counts_reached, stop_differ}
use Rattle.gwalk.specs.Marks.{stop_at}
use Rattle.gwalk.proofs.ancestry.missing_known.Goals as goal

pub returns-clause-answer : goal.returns-clause-answer
returns-clause-answer g c =
    let walk = rw c.as_slice.ensures at c.in_ok-walk.ensures.walk in
    misses c.args.known.now c.args.graph.now.entries c.requires c.args.ids.now c.in_ok-walk.walk.marks.items c.in_ok-walk.walk.met.items c.in_ok-walk.walk.missing c.in_ok-walk.walk.parent_count walk

pub returns-clause-count : goal.returns-clause-count
returns-clause-count g c =
    let walk = rw c.as_slice.ensures at c.in_ok-walk.ensures.walk in
    let counted = counts_reached (stop_at c.args.known.now c.args.graph.now.entries) c.args.ids.now c.in_ok-walk.walk.marks.items c.in_ok-walk.walk.met.items c.in_ok-walk.walk.missing c.in_ok-walk.walk.parent_count (stop_differ c.args.known.now c.args.graph.now.entries c.in_ok-walk.ensures.graph.differ) walk in
    subst (λ (n : ℕ). CountsReached (stop_at c.args.known.now c.args.graph.now.entries) c.args.ids.now n c.in_ok-walk.walk.parent_count) (omega arith) counted
