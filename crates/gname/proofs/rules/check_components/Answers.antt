use Rattle.std.proofs.Common.{Some, None, arith, ap, sym, below_more, ◌∙◌}
use Rattle.std.specs.Option.{option_map}
use Rattle.gname.specs.declared.faults.NameFault.TheVariants.{Component}
use Rattle.gname.specs.Names.{begins_bad_component, component}
use Rattle.gname.proofs.PlaceLemmas.{first_place_is}
use Rattle.gname.proofs.rules.check_components.Goals as goal

pub returns-then-begins_bad_component : goal.returns-then-begins_bad_component
unfolding component
returns-then-begins_bad_component c =
    ap (option_map Component)
    (first_place_is (begins_bad_component c.args.text.now) c.args.text.now (Some c.loop-at.at)
    (omega arith, sym c.begins_bad_component.ensures ∙ c.if-begins_bad_component.true, c.loop-at.invariant))

pub returns-else-begins_bad_component : goal.returns-else-begins_bad_component
unfolding component
returns-else-begins_bad_component c =
    let here = sym c.begins_bad_component.ensures ∙ c.if-begins_bad_component.false in
    ap (option_map Component)
    (first_place_is (begins_bad_component c.args.text.now) c.args.text.now None
    (λ k low. below_more _ _ c.loop-at.invariant here k (omega arith)))
