use Rattle.std.proofs.Common.{◌∙◌, length, refl, sym, arith}
use Rattle.gwalk.proofs.Rising.{good_placed, good_absent}
use Rattle.gwalk.proofs.ordered.up.is_good.Goals as goal

pub returns-in-Some : goal.returns-in-Some
returns-in-Some g c =
    let at = sym c.in-Some.ensures in
    let inside = c.requires.inside c.in-Some.position (record { id = c.args.id.now; among = (0, omega arith, refl); at = at }) in
    good_placed c.args.graph.now.entries c.args.goals.now c.args.id.now c.in-Some.position (length c.args.good.now) c.args.good.now c.is_marked.result at inside c.requires.good c.is_marked.ensures

pub returns-in-None : goal.returns-in-None
returns-in-None g c =
    let absent = sym c.position.ensures ∙ c.in-None.is in
    good_absent c.args.graph.now.entries c.args.goals.now c.args.id.now c.contains.result absent c.contains.ensures.cases
