use Rattle.std.proofs.Common.{◌≡◌, ◌+◌, ◌∷◌, ◌++◌, [], get_or, subst, sym, take}
use Rattle.std.proofs.lemmas.List.{take_more}
use Rattle.gitconfig.specs.steps.Writing.{AddsQuoted}
use Rattle.gitconfig.proofs.WritingLemmas.{quoted_more, quoted_none}
use Rattle.gitconfig.proofs.writing.push_quoted.Goals as goal

pub loop-byte-init : goal.loop-byte-init
loop-byte-init g c = quoted_none c.args.text.now.items

pub loop-byte-preserved : goal.loop-byte-preserved
loop-byte-preserved g c =
    let i = c.loop-byte.byte-index in
    let value = c.args.value.now in
    let more : take (i + 1) value ≡ take i value ++ get_or value i 0 ∷ [] = take_more value i 0 c.loop-byte-test.true in
    subst (λ done. AddsQuoted done c.args.text.now.items c.push_byte.new.text.items) (sym more)
    (quoted_more (take i value) (get_or value i 0) c.args.text.now.items c.loop-byte.text.items c.push_byte.new.text.items c.loop-byte.invariant c.in_ok-push_byte.ensures)
