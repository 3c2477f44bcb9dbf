use Rattle.std.proofs.Common.{◌≡◌, ℕ, ◌<◌, length, subst, ◌+◌, ◌++◌, ◌∷◌, [], take, ap, ◌∙◌}
use Rattle.std.proofs.lemmas.List.{take_more}
use Rattle.std.proofs.lemmas.Option.{get_or_from_slice_get}
use Rattle.gclientrepo.specs.Asks.{ask_of_aim}
use Rattle.gclientrepo.specs.declared.ask.Ask.{Ask}
use Rattle.gclientrepo.proofs.SettlingLemmas.{settles_none, settles_more, differ_before, cannot_settle}
use Rattle.gclientrepo.proofs.settling.take_asks.Goals as goal

pub loop-place-init : goal.loop-place-init
loop-place-init g c = rw (c.new-updates.ensures.items, c.requires.copy) (settles_none c.args.graph.now.entries c.args.old.now)

pub loop-place-preserved : goal.loop-place-preserved
loop-place-preserved g c =
    let asks = c.args.asks.now in
    let place = c.loop-place.place in
    let ask : Ask g.row.A.Denot = ask_of_aim (c.aim.result.0.now, c.aim.result.1.now) in
    let inside : place < length asks = subst (λ (n : ℕ). place < n) c.len-place-end.ensures.count c.loop-place-test.true in
    let is = get_or_from_slice_get asks place ask ask c.aim.ensures in
    let next : take (place + 1) asks ≡ take place asks ++ ask ∷ [] =
    take_more asks place ask inside ∙ ap (λ (a : Ask g.row.A.Denot). take place asks ++ a ∷ []) is in
    rw (next, c.in_ok-push.ensures.items)
    (settles_more c.args.graph.now.entries c.args.old.now (take place asks) c.loop-place.updates.items c.loop-place.refs c.take_ask.new.refs ask c.in_ok-update.update
    c.loop-place.invariant (differ_before asks place ask c.len-place-end.ensures.differ inside is) c.in_ok-update.ensures.0 c.in_ok-update.ensures.1)

pub take_ask-requires : goal.take_ask-requires
take_ask-requires g c =
    let asks = c.args.asks.now in
    let place = c.loop-place.place in
    let ask : Ask g.row.A.Denot = ask_of_aim (c.aim.result.0.now, c.aim.result.1.now) in
    let inside : place < length asks = subst (λ (n : ℕ). place < n) c.len-place-end.ensures.count c.loop-place-test.true in
    let is = get_or_from_slice_get asks place ask ask c.aim.ensures in
    λ cannot. c.requires.can
    (cannot_settle c.args.graph.now.entries c.args.old.now asks place c.loop-place.updates.items c.loop-place.refs ask c.len-place-end.ensures.differ inside is c.loop-place.invariant cannot)
