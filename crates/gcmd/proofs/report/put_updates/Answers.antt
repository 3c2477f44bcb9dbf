use Rattle.std.proofs.Common.{◌≤◌, ◌<◌, length, arith}
use Rattle.gcmd.proofs.ReportLemmas.{updates_all, updates_more}
use Rattle.gcmd.proofs.report.put_updates.Goals as goal

pub loop-place-preserved : goal.loop-place-preserved
loop-place-preserved g c =
    let inside : c.loop-place.place < length c.args.asks.now = let n = c.len-place-end.ensures.count in omega (arith, c.loop-place-test.true) in
    updates_more c.args.asks.now c.args.updates.now c.loop-place.place c.update_at.result c.args.text.now.items
    c.loop-place.text.items c.put_ask.new.text.items c.requires inside c.update_at.ensures c.loop-place.invariant
    c.in_ok-put_ask.ensures

pub returns : goal.returns
returns g c =
    let past : length c.args.asks.now ≤ c.loop-place.place = let n = c.len-place-end.ensures.count in omega (arith, c.loop-place-test.false) in
    updates_all c.args.asks.now c.args.updates.now c.loop-place.place c.args.text.now.items c.loop-place.text.items c.requires past c.loop-place.invariant
