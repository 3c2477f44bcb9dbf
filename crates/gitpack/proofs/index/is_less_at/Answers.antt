use Rattle.std.proofs.Common.{ap, sym, ◌∙◌}
use Rattle.std.specs.Ordering.{is_lt}
use Rattle.gname.specs.Ids.{id_cmp}
use Rattle.gitpack.proofs.index.is_less_at.Goals as goal

pub returns-in-Some : goal.returns-in-Some
returns-in-Some c = λ answer.
    let item = c.in-Some.ensures.lookup.3 in (
      item.0,
      λ d. ap (λ e. is_lt (id_cmp e.id c.args.id.now)) (sym (item.1 d)) ∙ sym (c.is_lt.ensures ∙ ap is_lt c.cmp.ensures) ∙ answer,
    )
