use Rattle.std.proofs.Common.{◌≡◌, ◌∷◌, ◌++◌, [], Some, codes, subst}
use Rattle.gitconfig.specs.Configs.{Begins, Item, Nothing, Sets}
use Rattle.gitconfig.specs.steps.Writing.{AddsItems}
use Rattle.gitconfig.proofs.WritingLemmas.{adds_both, is_config}
use Rattle.gitconfig.proofs.writing.bare_config.Goals as goal

pub returns : goal.returns
returns g c =
    let one = adds_both _ _ _ _ _ c.in_ok-push_section.ensures c.in_ok-push_setting.ensures in
    let two = adds_both _ _ _ _ _ one c.in_ok-push_setting-2.ensures in
    let three = adds_both _ _ _ _ _ two c.in_ok-push_setting-3.ensures in
    let four = adds_both _ _ _ _ _ three c.in_ok-push_subsection.ensures in
    let all = adds_both _ _ _ _ _ four c.in_ok-push_setting-4.ensures in
    let begun = rw c.new-text.ensures.items at all in
    is_config _ c.push_setting-4.new.text.items begun
