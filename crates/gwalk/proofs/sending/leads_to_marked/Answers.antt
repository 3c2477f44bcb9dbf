use Rattle.std.proofs.Common.{false, get_or, sym, ap, ◌∙◌}
use Rattle.std.proofs.lemmas.Bool.{false≢true}
use Rattle.std.proofs.lemmas.Option.{none-some, same_Some}
use Rattle.gwalk.proofs.Positions.{is_none}
use Rattle.gobject.specs.Objects.{position_of}
use Rattle.gwalk.proofs.sending.leads_to_marked.Goals as goal

pub returns-in_default : goal.returns-in_default
returns-in_default g c =
    let none = is_none c.peel.result c.in_default.not-Some in
    (λ t. absurd (false≢true t), λ lead. absurd (none-some lead.commit (sym none ∙ c.peel.ensures.only lead.commit lead.peels)))

pub returns-in_default-position : goal.returns-in_default-position
returns-in_default-position g c =
    let none = sym c.position.ensures ∙ is_none c.position.result c.in_default-position.not-Some in (
      λ t. absurd (false≢true t),
      λ lead.
          let same = same_Some c.in-Some.commit lead.commit (c.in-Some.ensures.only lead.commit lead.peels) in
          absurd (none-some lead.position (sym none ∙ ap (position_of c.args.graph.now.entries) same ∙ lead.is_at)),
    )

pub returns : goal.returns
returns g c = (
  λ t. record {
    commit = c.in-Some.commit;
    peels = c.in-Some.ensures.found;
    position = c.in-Some-position.position;
    is_at = sym c.in-Some-position.ensures;
    marked = sym c.is_marked.ensures ∙ t;
  },
  λ lead.
      let same = same_Some c.in-Some.commit lead.commit (c.in-Some.ensures.only lead.commit lead.peels) in
      let position = same_Some _ _ (c.in-Some-position.ensures ∙ ap (position_of c.args.graph.now.entries) same ∙ lead.is_at) in
      c.is_marked.ensures ∙ ap (λ p. get_or c.args.marks.now p false) position ∙ lead.marked,
)
