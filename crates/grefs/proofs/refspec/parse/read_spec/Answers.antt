use Rattle.std.proofs.Common.{codes, Some, None}
use Rattle.std.proofs.lemmas.Bool.Decides.{Decides-eqb}
use Rattle.std.proofs.lemmas.Slice.Eq.{strip_prefix_is}
use Rattle.grefs.proofs.SpecLemmas.{with_plus, without_plus}
use Rattle.grefs.proofs.refspec.parse.read_spec.Goals as goal

pub returns-in-Some : goal.returns-in-Some
returns-in-Some g c =
    with_plus c.names_are_clean.ensures c.args.text.now c.in-Some.rest.now (strip_prefix_is Decides-eqb c.args.text.now (codes "+") (Some c.in-Some.rest) c.in-Some.ensures.cases) _ c.read_rest.ensures

pub returns-in-None : goal.returns-in-None
returns-in-None g c =
    without_plus c.names_are_clean.ensures c.args.text.now (strip_prefix_is Decides-eqb c.args.text.now (codes "+") None c.in-None.ensures.cases) _ c.read_rest-in-None.ensures
