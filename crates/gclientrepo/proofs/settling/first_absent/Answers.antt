use Rattle.std.proofs.Common.{◌≤◌, ◌<◌, ℕ, All, length, subst, sym, take, ◌∙◌, arith}
use Rattle.std.proofs.lemmas.Bool.{false≢true}
use Rattle.std.proofs.lemmas.List.{take_all}
use Rattle.std.proofs.lemmas.List.Elements.{All-map, All-more}
use Rattle.std.proofs.lemmas.Option.{get_or_from_slice_get}
use Rattle.gdag.specs.Graphs.{Holds}
use Rattle.gdag.proofs.Holding.{not_held}
use Rattle.gclientrepo.specs.Asks.{ask_of_aim}
use Rattle.gclientrepo.specs.declared.ask.Ask.{Ask}
use Rattle.gclientrepo.proofs.SettlingLemmas.{asked_there}
use Rattle.gclientrepo.proofs.settling.first_absent.Goals as goal

pub returns-then-not-contains : goal.returns-then-not-contains
returns-then-not-contains g c =
    let asks = c.args.asks.now in
    let place = c.loop-place.place in
    let ask : Ask g.row.A.Denot = ask_of_aim (c.aim.result.0.now, c.aim.result.1.now) in
    let inside : place < length asks = subst (λ (n : ℕ). place < n) c.len-place-end.ensures.count c.loop-place-test.true in (
      asked_there asks place ask inside (get_or_from_slice_get asks place ask ask c.aim.ensures),
      not_held c.args.graph.now.entries ask.id
          (λ held. false≢true (sym c.if-not-contains.true ∙ c.contains.ensures.1 held)),
    )

pub loop-place-preserved : goal.loop-place-preserved
loop-place-preserved g c =
    let asks = c.args.asks.now in
    let place = c.loop-place.place in
    let ask : Ask g.row.A.Denot = ask_of_aim (c.aim.result.0.now, c.aim.result.1.now) in
    let inside : place < length asks = subst (λ (n : ℕ). place < n) c.len-place-end.ensures.count c.loop-place-test.true in
    let P : Ask g.row.A.Denot → Type 0 = λ a. Holds c.args.graph.now.entries a.id in
    All-more P asks place ask inside c.loop-place.invariant
    (subst P (sym (get_or_from_slice_get asks place ask ask c.aim.ensures)) (c.contains.ensures.0 c.if-not-contains.false))

pub returns : goal.returns
returns g c =
    let asks = c.args.asks.now in
    let past : length asks ≤ c.loop-place.place = omega (arith, c.loop-place-test.false, c.len-place-end.ensures.count) in
    let P : Ask g.row.A.Denot → Type 0 = λ a. Holds c.args.graph.now.entries a.id in
    All-map (Holds c.args.graph.now.entries) (λ (a : Ask g.row.A.Denot). a.id) asks
    (subst (All P) (take_all c.loop-place.place asks past) c.loop-place.invariant)
