use Rattle.std.proofs.Common.{◌≢◌, ◌∙◌, [], length, sym, ap, eqb}
use Rattle.std.proofs.lemmas.Bool.{false≢true}
use Rattle.gwalk.proofs.common.ready.Goals as goal

pub returns-clause-answer : goal.returns-clause-answer
returns-clause-answer g c =
    let some : c.args.commons.now ≢ [] = λ e. false≢true (sym c.if-is_empty.false ∙ c.is_empty.ensures ∙ ap (λ xs. eqb (length xs) 0) e) in
    (λ t. record { some = some; each = c.in_ok-all_reach.ensures.0 t }, λ r. c.in_ok-all_reach.ensures.1 r.each)
