use Rattle.std.proofs.Common.{◌∷◌, ◌++◌, [], subst}
use Rattle.gitconfig.specs.steps.Writing.{AddsQuoted}
use Rattle.gitconfig.proofs.WritingLemmas.{adds_in_quotes, adds_plain}
use Rattle.gitconfig.proofs.writing.push_value.Goals as goal

pub returns : goal.returns
returns g c = adds_in_quotes c.args.value.now c.args.text.now.items c.push_quoted.new.text.items c.push-2.new.self.items
    (subst (λ old. AddsQuoted c.args.value.now old c.push_quoted.new.text.items) c.in_ok-push.ensures.items c.in_ok-push_quoted.ensures) c.in_ok-push-2.ensures.items

pub returns-then-is_plain : goal.returns-then-is_plain
returns-then-is_plain g c = adds_plain c.args.value.now c.args.text.now.items c.extend_from_slice.new.self.items (c.is_plain.ensures.0 c.if-is_plain.true) c.in_ok-extend_from_slice.ensures.items
