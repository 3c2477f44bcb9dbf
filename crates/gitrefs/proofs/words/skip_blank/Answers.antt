use Rattle.std.proofs.Common.{subst, sym, take}
use Rattle.gitrefs.specs.Spaces.{BeginsWithoutSpace, IsBlank, is_other}
use Rattle.gitrefs.proofs.Cutting.{FoundAt, begins_at, blank_from, position_parts}
use Rattle.gitrefs.proofs.words.skip_blank.Goals as goal

pub returns-in-Some-clause-blank : goal.returns-in-Some-clause-blank
returns-in-Some-clause-blank c =
    let found = subst (FoundAt is_other c.args.text.now) c.in-Some.is (position_parts is_other c.args.text.now c.other_at.result c.other_at.ensures) in
    subst IsBlank (sym c.split_at.ensures.front) (blank_from (take c.in-Some.end c.args.text.now) found.2)

pub returns-in-Some-clause-stops : goal.returns-in-Some-clause-stops
returns-in-Some-clause-stops c =
    let found = subst (FoundAt is_other c.args.text.now) c.in-Some.is (position_parts is_other c.args.text.now c.other_at.result c.other_at.ensures) in
    subst BeginsWithoutSpace (sym c.split_at.ensures.back) (begins_at c.args.text.now c.in-Some.end found.0 found.1)

pub returns-in-None-clause-blank : goal.returns-in-None-clause-blank
returns-in-None-clause-blank c =
    blank_from c.args.text.now (subst (FoundAt is_other c.args.text.now) c.in-None.is (position_parts is_other c.args.text.now c.other_at.result c.other_at.ensures))
