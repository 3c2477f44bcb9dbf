use Rattle.std.proofs.Common.{arith}
use Rattle.gclientrepo.proofs.RepoLemmas.{all_held, not_all_held}
use Rattle.gclientrepo.proofs.opening.first_lost.Goals as goal

pub loop-connected-preserved-then-is_none : goal.loop-connected-preserved-then-is_none
loop-connected-preserved-then-is_none g c = record {
  below = omega (arith, c.loop-connected-test.true);
  inside = c.loop-connected.invariant.inside;
  held = all_held c.args.graph.now.entries _ c.in_ok-missing.field-0 c.in_ok-missing.ensures.answer c.if-is_none.ensures;
  lost = c.loop-connected.invariant.lost;
}

pub loop-connected-preserved : goal.loop-connected-preserved
loop-connected-preserved g c = record {
  below = omega (arith, c.loop-connected-test.true);
  inside = omega (arith, c.loop-connected-test.true, c.loop-connected.invariant.inside);
  held = c.loop-connected.invariant.held;
  lost = not_all_held c.args.graph.now.entries _ c.in_ok-missing.field-0 c.in_ok-missing.ensures.answer c.if-is_none.ensures;
}
