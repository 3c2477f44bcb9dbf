use Rattle.std.proofs.Common.{ℕ, List, Contains, refl, sym, ◌∙◌, subst, arith}
use Rattle.std.proofs.lemmas.Bool.{false≢true}
use Rattle.std.proofs.lemmas.List.{take_all}
use Rattle.std.proofs.lemmas.List.Elements.{All-more}
use Rattle.gdag.proofs.IdLists.{contains_from_in, absent_from_in}
use Rattle.gwalk.proofs.Looking.{none_any}
use Rattle.gwalk.proofs.common.has_one.Goals as goal

pub returns-then-contains : goal.returns-then-contains
returns-then-contains c =
    let found = contains_from_in c.args.list.now c.id-item.result (sym c.contains.ensures.value ∙ c.if-contains.true) in
    (λ t. (c.loop-id.id-index, c.id-item.result, c.loop-id-test.true, sym c.id-item.is, found), λ any. refl)

pub loop-id-preserved : goal.loop-id-preserved
loop-id-preserved c =
    let P : List ℕ → Type 0 = λ id. ¬ (Contains c.args.list.now id) in
    let never : P c.id-item.result = absent_from_in c.args.list.now c.id-item.result (sym c.contains.ensures.value ∙ c.if-contains.false) in
    All-more P c.args.ids.now c.loop-id.id-index c.id-item.result c.loop-id-test.true c.loop-id.invariant (subst P c.id-item.is never)

pub returns : goal.returns
returns c =
    let P : List ℕ → Type 0 = λ id. Contains c.args.list.now id in
    let never = rw (take_all c.loop-id.id-index c.args.ids.now (omega arith)) at c.loop-id.invariant in
    (λ e. absurd (false≢true e), λ any. absurd (none_any P c.args.ids.now never any))
