use Rattle.std.proofs.Common.{◌≤◌, ◌<◌, length, arith}
use Rattle.gtcp.proofs.ListingLemmas.{refs_all, refs_more}
use Rattle.gtcp.proofs.listing.put_refs.Goals as goal

pub loop-index-preserved : goal.loop-index-preserved
loop-index-preserved g c =
    let inside : c.loop-index.index < length c.args.reply.now.lines = let n = c.len-index-end.ensures.len in omega (arith, c.loop-index-test.true) in
    refs_more c.args.reply.now.lines c.loop-index.index c.args.text.now.items c.loop-index.text.items c.put_ref.new.text.items
    inside c.loop-index.invariant c.in_ok-put_ref.ensures

pub returns : goal.returns
returns g c =
    let past : length c.args.reply.now.lines ≤ c.loop-index.index = let n = c.len-index-end.ensures.len in omega (arith, c.loop-index-test.false) in
    refs_all c.args.reply.now.lines c.loop-index.index c.args.text.now.items c.loop-index.text.items past c.loop-index.invariant
