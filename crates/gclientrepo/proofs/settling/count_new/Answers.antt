use Rattle.std.proofs.Common.{◌≡◌, ◌∙◌, ◌<◌, ◌+◌, Bool, not, ℕ, ap, length, subst, sym}
use Rattle.std.proofs.lemmas.List.Sums.{count_by_more_no, count_by_more_yes}
use Rattle.std.proofs.lemmas.Option.{get_or_from_slice_get}
use Rattle.std.specs.Option.{is_some}
use Rattle.gclientrepo.specs.Asks.{ask_of_aim}
use Rattle.gclientrepo.specs.Settling.{is_new}
use Rattle.gclientrepo.specs.declared.ask.Ask.{Ask}
use Rattle.gclientrepo.proofs.settling.count_new.Goals.{then-is_none, else-is_none}
use Rattle.gclientrepo.proofs.settling.count_new.Goals as goal

pub loop-place-preserved : goal.loop-place-preserved
loop-place-preserved g c =
    let refs = c.args.refs.now in
    let asks = c.args.asks.now in
    let place = c.loop-place.place in
    let ask : Ask g.row.A.Denot = ask_of_aim (c.aim.result.0.now, c.aim.result.1.now) in
    let inside : place < length asks = subst (λ (n : ℕ). place < n) c.len-place-end.ensures.count c.loop-place-test.true in
    let is = ap (is_new refs) (get_or_from_slice_get asks place ask ask c.aim.ensures) in
    let new : is_new refs ask ≡ not (not c.is_none.result) = ap not (ap is_some (sym c.get.ensures) ∙ c.is_none.ensures) in
    elim c.if-is_none.branch [
      | then-is_none w ↦
          w.count-is ∙ ap (λ (n : ℕ). n + 1) c.loop-place.invariant ∙ sym (count_by_more_yes (is_new refs) asks place ask inside (is ∙ new ∙ ap (λ (b : Bool). not (not b)) w.if-is_none.true))
      | else-is_none w ↦ w.count-is ∙ c.loop-place.invariant ∙ sym (count_by_more_no (is_new refs) asks place ask inside (is ∙ new ∙ ap (λ (b : Bool). not (not b)) w.if-is_none.false))
    ]
