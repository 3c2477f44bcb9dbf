use Rattle.std.proofs.Common.{◌<◌, length, arith}
use Rattle.gwalk.proofs.TagChains.{chain_begins, chain_goes_on, chain_done}
use Rattle.gwalk.proofs.ordered.tags.mark_chain.Goals as goal

pub loop-next-init : goal.loop-next-init
loop-next-init g c = chain_begins c.args.graph.now.entries c.args.start c.args.tagged.now.items c.requires.order c.requires.held

pub loop-next-preserved : goal.loop-next-preserved
loop-next-preserved g c =
    let before = c.loop-next.invariant in
    let within : c.loop-next.at < length c.loop-next.tagged.items = let l = before.long in let low = before.low in let h = c.requires.inside in omega arith in
    chain_goes_on c.args.graph.now.entries c.args.start c.loop-next.at c.args.tagged.now.items c.loop-next.tagged.items before c.in-Some.next c.in-Some.ensures within

pub returns : goal.returns
returns g c = chain_done c.args.graph.now.entries c.args.start c.loop-next.at c.args.tagged.now.items c.loop-next.tagged.items c.loop-next.invariant c.in_default.ensures
