use Rattle.std.proofs.Common.{◌∙◌, ℕ, List, sym, subst, arith, refl}
use Rattle.std.specs.List.{Any}
use Rattle.std.proofs.lemmas.Bool.{false≢true}
use Rattle.std.proofs.lemmas.List.{take_all}
use Rattle.std.proofs.lemmas.List.Elements.{All-more}
use Rattle.gdag.specs.Reach.{Reaches}
use Rattle.gwalk.proofs.common.all_reach.Goals as goal

pub returns-then-not-branch : goal.returns-then-not-branch
returns-then-not-branch g c =
    let P : List ℕ → Type 0 = λ id. Any (Reaches c.args.graph.now.entries id) c.args.goals.now in (
      λ e. absurd (false≢true e),
      λ all.
          let one : P c.id-item.result = subst P (sym c.id-item.is) (all c.loop-id.id-index c.id-item.result c.loop-id-test.true) in
          absurd (false≢true (sym c.if-not-branch.true ∙ (c.in_ok-reached_by.ensures c.args.goals.now c.in_ok-goals.ensures).1 one)),
    )

pub loop-id-preserved : goal.loop-id-preserved
loop-id-preserved g c =
    let P : List ℕ → Type 0 = λ id. Any (Reaches c.args.graph.now.entries id) c.args.goals.now in
    let one : P c.id-item.result = (c.in_ok-reached_by.ensures c.args.goals.now c.in_ok-goals.ensures).0 c.if-not-branch.false in
    All-more P c.args.ids.now c.loop-id.id-index c.id-item.result c.loop-id-test.true c.loop-id.invariant (subst P c.id-item.is one)

pub returns : goal.returns
returns g c =
    let all = rw (take_all c.loop-id.id-index c.args.ids.now (omega arith)) at c.loop-id.invariant in
    (λ t. all, λ r. refl)
