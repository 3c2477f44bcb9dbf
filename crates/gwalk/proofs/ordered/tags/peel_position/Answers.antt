use Rattle.std.proofs.Common.{arith}
use Rattle.gwalk.proofs.TagChains.{led_none, led_more}
use Rattle.gwalk.proofs.ordered.tags.peel_position.Goals as goal

pub loop-next-init : goal.loop-next-init
loop-next-init g c = record {
  led = led_none c.args.graph.now.entries c.requires.order c.args.start c.requires.held;
  inside = c.requires.held;
}

pub loop-next-preserved : goal.loop-next-preserved
loop-next-preserved g c = record {
  led = led_more c.args.graph.now.entries _ _ c.in-Some.next c.loop-next.invariant.led c.in-Some.ensures;
  inside = omega (arith, c.in-Some.ensures.below, c.loop-next.invariant.inside);
}
