use Rattle.std.proofs.Common.{◌<◌, take, List, ℕ, length, sym, ◌∙◌, subst, arith}
use Rattle.std.proofs.lemmas.List.{length-set, length-take-le, take_more_set}
use Rattle.ggraph.proofs.TextLemmas.{IdsSoFar, ids_begin, ids_more, no_ids_stuck, too_many_ids}
use Rattle.ggraph.proofs.text.parts.read_parents.Goals as goal

pub loop-rest-init : goal.loop-rest-init
loop-rest-init c = (ids_begin c.args.format c.args.text.now, omega arith, c.told-ids)

pub returns-in_default : goal.returns-in_default
returns-in_default c = no_ids_stuck c.text_laws.ensures c.args.format c.args.text.now (take c.loop-rest.count c.loop-rest.ids) c.loop-rest.rest.now c.loop-rest.invariant.0 (λ none. (let empty = rw none at c.is_empty.ensures in cc)) c.in_default.ensures

pub returns-then-count-eq-MAX_PARENTS : goal.returns-then-count-eq-MAX_PARENTS
returns-then-count-eq-MAX_PARENTS c =
    let inside = length-take-le c.loop-rest.count c.loop-rest.ids (omega (arith, c.loop-rest.invariant.1, c.loop-rest.invariant.2)) in
    too_many_ids c.text_laws.ensures c.args.format c.args.text.now (take c.loop-rest.count c.loop-rest.ids) c.loop-rest.rest.now c.in-Some.found.0 c.in-Some.found.1.now c.loop-rest.invariant.0 (inside ∙ c.if-count-eq-MAX_PARENTS.true) c.in-Some.ensures.1 c.in-Some.ensures.0

pub loop-rest-preserved : goal.loop-rest-preserved
loop-rest-preserved c =
    let inside : c.loop-rest.count < length c.loop-rest.ids = omega (arith, c.loop-rest.invariant.1, c.loop-rest.invariant.2, c.if-count-eq-MAX_PARENTS.false) in
    let more = ids_more c.text_laws.ensures c.args.format c.args.text.now (take c.loop-rest.count c.loop-rest.ids) c.loop-rest.rest.now c.in-Some.found.0 c.in-Some.found.1.now c.loop-rest.invariant.0 c.in-Some.ensures.1 c.in-Some.ensures.0 in (
      subst (λ (ids : List (List ℕ)). IdsSoFar c.args.format c.args.text.now ids c.in-Some.found.1.now) (sym (take_more_set c.loop-rest.ids c.loop-rest.count c.in-Some.found.0 inside)) more,
      omega (arith, inside, c.loop-rest.invariant.2),
      length-set c.loop-rest.ids c.loop-rest.count c.in-Some.found.0 ∙ c.loop-rest.invariant.2,
    )
