use Rattle.std.proofs.Common.{◌≡◌, All, false, subst, sym}
use Rattle.gitrefs.specs.Spaces.{EndsWord, is_space}
use Rattle.gitrefs.proofs.Cutting.{FoundAt, ends_at, position_parts}
use Rattle.gitrefs.proofs.words.cut_word.Goals as goal

pub returns-in-Some-clause-word : goal.returns-in-Some-clause-word
returns-in-Some-clause-word c =
    let found = subst (FoundAt is_space c.args.text.now) c.in-Some.is (position_parts is_space c.args.text.now c.space_at.result c.space_at.ensures) in
    subst (All (λ b. is_space b ≡ false)) (sym c.split_at.ensures.front) found.2

pub returns-in-Some-clause-ends : goal.returns-in-Some-clause-ends
returns-in-Some-clause-ends c =
    let found = subst (FoundAt is_space c.args.text.now) c.in-Some.is (position_parts is_space c.args.text.now c.space_at.result c.space_at.ensures) in
    subst EndsWord (sym c.split_at.ensures.back) (ends_at c.args.text.now c.in-Some.end found.0 found.1)

pub returns-in-None-clause-word : goal.returns-in-None-clause-word
returns-in-None-clause-word c =
    subst (FoundAt is_space c.args.text.now) c.in-None.is (position_parts is_space c.args.text.now c.space_at.result c.space_at.ensures)
