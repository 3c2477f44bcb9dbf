use Rattle.std.proofs.Common.{ap, sym, ◌∙◌}
use Rattle.std.specs.Ordering.{is_gt}
use Rattle.gname.specs.Ids.{id_cmp}
use Rattle.gitpack.proofs.index.is_greater_at.Goals as goal

pub returns-in-Some : goal.returns-in-Some
returns-in-Some c = λ answer.
    let item = c.in-Some.ensures.lookup.3 in (
      item.0,
      λ d. ap (λ e. is_gt (id_cmp e.id c.args.id.now)) (sym (item.1 d)) ∙ sym (c.is_gt.ensures ∙ ap is_gt c.cmp.ensures) ∙ answer,
    )
