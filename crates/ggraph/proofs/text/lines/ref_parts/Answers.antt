use Rattle.std.proofs.Common.{None, ◌∷◌, []}
use Rattle.std.proofs.lemmas.Bool.Decides.{Decides-eqb}
use Rattle.std.proofs.lemmas.Slice.Eq.{strip_prefix_is}
use Rattle.ggraph.proofs.TextLemmas.{no_ref_id, no_ref_space}
use Rattle.ggraph.proofs.text.lines.ref_parts.Goals as goal

pub returns-in_default : goal.returns-in_default
returns-in_default c = no_ref_id c.text_laws.ensures c.args.format c.args.text.now c.in_default.ensures

pub returns-in_default-strip_prefix : goal.returns-in_default-strip_prefix
returns-in_default-strip_prefix c =
    no_ref_space c.text_laws.ensures c.args.format c.args.text.now c.in-Some.first.1.now c.in-Some.first.0 c.in-Some.ensures.0 c.in-Some.ensures.1
    (strip_prefix_is Decides-eqb c.in-Some.first.1.now (32 ∷ []) None c.in_default-strip_prefix.ensures.cases)
