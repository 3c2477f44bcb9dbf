use Rattle.std.proofs.Common.{◌==◌, ◌∙◌, List, ℕ, ap, arith, subst, sym}
use Rattle.std.proofs.lemmas.Bool.{false≢true}
use Rattle.gitpack.proofs.DeltaLemmas.{Follows, begins_following, follows_end, follows_long, follows_more, follows_none, follows_other, is_nil}
use Rattle.gitpack.proofs.delta.follow.Goals as goal

pub loop-rest-init : goal.loop-rest-init
loop-rest-init g c =
    let P : List ℕ → Type 0 = λ l. Follows c.args.base.now c.args.commands.now c.args.commands.now l c.args.size in
    subst P (sym c.in_ok-body.ensures.items) (begins_following c.args.base.now c.args.commands.now c.args.size)

pub returns-in_default : goal.returns-in_default
returns-in_default g c is made makes long =
    follows_none c.args.base.now c.args.commands.now c.loop-rest.rest.now c.loop-rest.body.items c.args.size c.loop-rest.invariant
    (λ h. false≢true (sym c.loop-rest-test.true ∙ c.is_empty.ensures ∙ ap (λ n. n == 0) h)) c.in_default.ensures is made makes

pub returns-then-part-size : goal.returns-then-part-size
returns-then-part-size g c =
    let s = c.in-Some.ensures in
    let n = c.len.ensures in
    let over = c.if-part-size.true in
    follows_long c.args.base.now c.args.commands.now c.loop-rest.rest.now c.in-Some.after.now c.loop-rest.body.items c.in-Some.part.now c.args.size s.0 c.loop-rest.invariant s.1 s.2 (omega (arith, n, over))

pub loop-rest-preserved : goal.loop-rest-preserved
loop-rest-preserved g c =
    let s = c.in-Some.ensures in
    let n = c.len.ensures in
    let within = c.if-part-size.false in
    follows_more c.args.base.now c.args.commands.now c.loop-rest.rest.now c.in-Some.after.now c.loop-rest.body.items c.extend_from_slice.new.self.items c.in-Some.part.now c.args.size s.0
    c.loop-rest.invariant s.1 s.2 (omega (arith, n, within)) c.in_ok-extend_from_slice.ensures.items

pub returns-then-len-size : goal.returns-then-len-size
returns-then-len-size g c =
    let end = follows_end c.args.base.now c.args.commands.now c.loop-rest.rest.now c.loop-rest.body.items c.args.size c.loop-rest.invariant
    (is_nil c.loop-rest.rest.now (sym c.is_empty.ensures ∙ c.loop-rest-test.false)) in
    let n = c.len-2.ensures in
    let same = c.if-len-size.true in
    (end.0, end.1, omega (arith, n, same))

pub returns-else-len-size : goal.returns-else-len-size
returns-else-len-size g c is made makes long =
    let other = follows_other c.args.base.now c.args.commands.now c.loop-rest.rest.now c.loop-rest.body.items c.args.size c.loop-rest.invariant
    (is_nil c.loop-rest.rest.now (sym c.is_empty.ensures ∙ c.loop-rest-test.false)) is made makes in
    let n = c.len-2.ensures in
    let differ = c.if-len-size.false in
    absurd (omega (arith, n, differ, other, long))
