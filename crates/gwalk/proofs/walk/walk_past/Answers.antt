use Rattle.std.proofs.Common.{◌++◌, ◌∷◌, [], arith}
use Rattle.gdag.specs.Levels.{new_ids}
use Rattle.gdag.proofs.IdLists.{with_new}
use Rattle.gwalk.proofs.Stopping.{stop_length}
use Rattle.gwalk.proofs.Walking.{underway, next, goes, finishes, lent_parents}
use Rattle.gwalk.proofs.walk.walk_past.Goals as goal

pub meet_all-requires-clause-has : goal.meet_all-requires-clause-has
meet_all-requires-clause-has g c = ([], c.in_ok-walk.ensures.met c.args.known.now)

pub loop-at-init : goal.loop-at-init
loop-at-init g c =
    ([], with_new [] c.args.starts.now, underway _ _ _ _ _ _ (c.in_ok-meet_all.ensures [] (c.in_ok-walk.ensures.met c.args.known.now)))

pub parents_past-requires : goal.parents_past-requires
parents_past-requires g c =
    let inside = c.loop-at.invariant.2.has_met.inside c.loop-at.at c.index-position.result.now (omega arith) in
    let long = stop_length c.args.known.now c.args.graph.now.entries in
    omega (arith, inside, c.index-position.ensures)

pub loop-at-smaller : goal.loop-at-smaller
loop-at-smaller g c =
    let now = c.loop-at.invariant in let long = stop_length c.args.known.now c.args.graph.now.entries in
    omega (arith, now.2.has_met.few)

pub loop-at-preserved : goal.loop-at-preserved
loop-at-preserved g c =
    let now = c.loop-at.invariant in
    let n = next _ _ now.0 now.1 _ _ _ _ _ now.2 c.index-position.result.now (omega arith) c.index-position.ensures in
    let lent = lent_parents _ n.id _ _ n.position c.parents_past.ensures in
    (now.0 ++ (n.mid ++ n.id ∷ []), n.rest ++ new_ids (now.0 ++ now.1) c.parents_past.result.now, goes _ _ now.0 now.1 _ _ _ _ _ now.2 c.index-position.result.now n c.parents_past.result.now lent _ _ _ _ (c.in_ok-meet_all-2.ensures (now.0 ++ now.1) now.2.has_met))

pub returns-clause-walk : goal.returns-clause-walk
returns-clause-walk g c =
    let now = c.loop-at.invariant in
    finishes _ _ now.0 now.1 _ _ _ _ _ now.2 (omega arith)
