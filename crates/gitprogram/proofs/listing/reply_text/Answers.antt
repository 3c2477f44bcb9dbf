use Rattle.std.proofs.Common.{◌≤◌, ◌<◌, length, arith}
use Rattle.gitprogram.proofs.ListingLemmas.{refs_all, refs_more}
use Rattle.gitprogram.proofs.listing.reply_text.Goals as goal

pub loop-place-preserved : goal.loop-place-preserved
loop-place-preserved c =
    let inside : c.loop-place.place < length c.args.reply.now.lines = let n = c.len-place-end.ensures.len in omega (arith, c.loop-place-test.true) in
    refs_more c.args.prefixes.now c.args.reply.now.lines c.loop-place.place c.loop-place.text.items c.put_at.new.text.items
    inside c.loop-place.invariant c.in_ok-put_at.ensures

pub returns : goal.returns
returns c =
    let past : length c.args.reply.now.lines ≤ c.loop-place.place = let n = c.len-place-end.ensures.len in omega (arith, c.loop-place-test.false) in
    refs_all c.args.prefixes.now c.args.reply.now.lines c.loop-place.place c.loop-place.text.items past c.loop-place.invariant
