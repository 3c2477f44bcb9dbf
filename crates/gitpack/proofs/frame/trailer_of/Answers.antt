use Rattle.std.proofs.Common.{length, take, ◌++◌, ◌-◌, refl, ap, sym, ◌∙◌}
use Rattle.gitpack.proofs.IndexLemmas.{cut_at}
use Rattle.gitpack.proofs.frame.trailer_of.Goals as goal

pub returns-clause-parts : goal.returns-clause-parts
returns-clause-parts c =
    let pack = c.args.pack.now in
    let body = take (length pack - 20) pack in
    let halves = c.in-Some.ensures.cases in
    let same = c.is_same.ensures.0 c.if-not-is_same.false in
    (c.id_of_bytes.ensures.bytes ∙ sym same, cut_at (length pack - 20) pack body c.in-Some.trailer.now refl halves.1 ∙ ap (λ l. body ++ l) (sym same))
