use Rattle.std.proofs.Common.{◌<◌, ◌≤◌, ℕ, length, subst, arith}
use Rattle.std.proofs.lemmas.List.{take_all}
use Rattle.std.proofs.lemmas.Option.{get_or_from_slice_get}
use Rattle.gclientrepo.specs.Asks.{ask_of_aim}
use Rattle.gclientrepo.specs.declared.ask.Ask.{Ask}
use Rattle.gclientrepo.proofs.SettlingLemmas.{NoHead, no_head_more, no_head_there}
use Rattle.gclientrepo.proofs.settling.asks_for_head.Goals as goal

pub loop-place-preserved : goal.loop-place-preserved
loop-place-preserved g c =
    let asks = c.args.asks.now in
    let place = c.loop-place.place in
    let ask : Ask g.row.A.Denot = ask_of_aim (c.aim.result.0.now, c.aim.result.1.now) in
    let inside : place < length asks = subst (λ (n : ℕ). place < n) c.len-place-end.ensures.count c.loop-place-test.true in
    let is = get_or_from_slice_get asks place ask ask c.aim.ensures in
    no_head_more asks place ask inside is c.loop-place.invariant (λ same. (let head = c.is_head.ensures.1 same in cc))

pub returns : goal.returns
returns g c =
    let asks = c.args.asks.now in
    let past : length asks ≤ c.loop-place.place = omega (arith, c.loop-place-test.false, c.len-place-end.ensures.count) in
    let none = subst (NoHead {A = g.row.A.Denot}) (take_all c.loop-place.place asks past) c.loop-place.invariant in
    (λ yes. (cc yes), λ there. absurd (no_head_there asks none there))
