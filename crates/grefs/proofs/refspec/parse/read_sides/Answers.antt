use Rattle.std.proofs.Common.{codes, Some, None}
use Rattle.std.proofs.lemmas.Bool.Decides.{Decides-eqb}
use Rattle.std.proofs.lemmas.Slice.Eq.{strip_suffix_is}
use Rattle.grefs.proofs.SpecLemmas.{both_stars, not_both_stars}
use Rattle.grefs.proofs.refspec.parse.read_sides.Goals as goal

pub returns-in-Some-strip_suffix : goal.returns-in-Some-strip_suffix
returns-in-Some-strip_suffix g c =
    let from = strip_suffix_is Decides-eqb c.args.source.now (codes "*") (Some c.in-Some.stem) c.in-Some.ensures.cases in
    let to = strip_suffix_is Decides-eqb c.args.destination.now (codes "*") (Some c.in-Some-strip_suffix.other) c.in-Some-strip_suffix.ensures.cases in
    both_stars c.names_are_clean.ensures c.args.forced c.args.source.now c.args.destination.now c.in-Some.stem.now c.in-Some-strip_suffix.other.now from to _ c.patterns.ensures

pub returns-in-None-strip_suffix : goal.returns-in-None-strip_suffix
returns-in-None-strip_suffix g c =
    let none = strip_suffix_is Decides-eqb c.args.destination.now (codes "*") None c.in-None-strip_suffix.ensures.cases in
    not_both_stars c.args.forced c.args.source.now c.args.destination.now (λ a b from to. none b to) _ c.names.ensures

pub returns-in-None : goal.returns-in-None
returns-in-None g c =
    let none = strip_suffix_is Decides-eqb c.args.source.now (codes "*") None c.in-None.ensures.cases in
    not_both_stars c.args.forced c.args.source.now c.args.destination.now (λ a b from to. none a from) _ c.names-in-None.ensures
