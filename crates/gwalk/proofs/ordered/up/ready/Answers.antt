use Rattle.std.proofs.Common.{◌∙◌, ◌≢◌, ℕ, List, [], eqb, length, refl, sym, ap, subst, arith}
use Rattle.std.specs.List.{Any}
use Rattle.std.proofs.lemmas.Bool.{false≢true}
use Rattle.std.proofs.lemmas.List.{take_all}
use Rattle.std.proofs.lemmas.List.Elements.{All-more}
use Rattle.gdag.specs.Reach.{Reaches}
use Rattle.gdag.specs.Walks.{IsReady}
use Rattle.gwalk.proofs.Positions.{item_position, one_item}
use Rattle.gwalk.proofs.ordered.up.ready.Goals as goal

pub is_good-requires-clause-inside : goal.is_good-requires-clause-inside
is_good-requires-clause-inside g c =
    let same = ap length c.as_slice.ensures.value in
    λ p x. (
    let y = item_position _ _ _ _ c.loop-want-test.true c.want-item.is p (one_item _ c.want-item.result p x) in
    let h = c.end_of.ensures.below p y in
    omega (arith, c.in_ok-good.ensures.long)
    )

pub returns-then-not-is_good-clause-answer : goal.returns-then-not-is_good-clause-answer
returns-then-not-is_good-clause-answer g c =
    let held = c.args.graph.now.entries in
    let P : List ℕ → Type 0 = λ want. Any (Reaches held want) c.args.commons.now in
    let one : IsReady held c.args.wants.now c.args.commons.now → P c.want-item.result = λ r. subst P (sym c.want-item.is) (r.each c.loop-want.want-index c.want-item.result c.loop-want-test.true) in (
      λ e. absurd (false≢true e),
      λ r. absurd (false≢true (sym c.if-not-is_good.true ∙ c.is_good.ensures.1 (one r))),
    )

pub loop-want-preserved : goal.loop-want-preserved
loop-want-preserved g c =
    let P : List ℕ → Type 0 = λ want. Any (Reaches c.args.graph.now.entries want) c.args.commons.now in
    let one : P c.want-item.result = c.is_good.ensures.0 c.if-not-is_good.false in
    All-more P c.args.wants.now c.loop-want.want-index c.want-item.result c.loop-want-test.true c.loop-want.invariant (subst P c.want-item.is one)

pub returns-clause-answer : goal.returns-clause-answer
returns-clause-answer g c =
    let all = rw (take_all c.loop-want.want-index c.args.wants.now (omega arith)) at c.loop-want.invariant in
    let some : c.args.commons.now ≢ [] = λ e. false≢true (sym c.if-is_empty.false ∙ c.is_empty.ensures ∙ ap (λ xs. eqb (length xs) 0) e) in
    (λ t. record { some = some; each = all }, λ r. refl)
