use Rattle.std.proofs.Common.{Some, ◌∷◌, []}
use Rattle.std.proofs.lemmas.Bool.Decides.{Decides-eqb}
use Rattle.std.proofs.lemmas.Slice.Eq.{strip_prefix_is}
use Rattle.ggraph.proofs.ReadingLemmas.{head_on_line}
use Rattle.ggraph.proofs.text.lines.head_of.Goals as goal

pub returns-in-Some-strip_prefix : goal.returns-in-Some-strip_prefix
returns-in-Some-strip_prefix g c =
    head_on_line c.args.format c.args.line.now c.in-Some-strip_prefix.text.now c.head_on.result
    (strip_prefix_is Decides-eqb c.args.line.now (104 ∷ 32 ∷ 114 ∷ 101 ∷ 102 ∷ 32 ∷ []) (Some c.in-Some-strip_prefix.text) c.in-Some-strip_prefix.ensures.cases)
    c.head_on.ensures
