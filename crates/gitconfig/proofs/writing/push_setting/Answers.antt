use Rattle.std.proofs.Common.{◌∷◌, ◌++◌, [], ◌∙◌, ap, subst}
use Rattle.gitconfig.specs.steps.Writing.{AddsValue}
use Rattle.gitconfig.proofs.WritingLemmas.{adds_setting}
use Rattle.gitconfig.proofs.writing.push_setting.Goals as goal

pub returns : goal.returns
returns g c = adds_setting c.args.name.now c.args.value.now c.args.text.now.items c.push_value.new.text.items c.push-2.new.self.items c.requires
    (subst (λ old. AddsValue c.args.value.now old c.push_value.new.text.items)
    (c.in_ok-extend_from_slice-2.ensures.items ∙ ap (λ l. l ++ 32 ∷ 61 ∷ 32 ∷ []) (c.in_ok-extend_from_slice.ensures.items ∙ ap (λ l. l ++ c.args.name.now) c.in_ok-push.ensures.items))
    c.in_ok-push_value.ensures)
    c.in_ok-push-2.ensures.items
