use Rattle.std.proofs.Common.{arith}
use Rattle.gitpack.proofs.DeltaLemmas.{follow_delta, no_size, other_size}
use Rattle.gitpack.proofs.delta.apply_delta.Goals as goal

pub returns-in_default-split_size : goal.returns-in_default-split_size
returns-in_default-split_size g c body d short =
    let f = c.in-Some.ensures in
    no_size c.args.base.now c.args.delta.now c.in-Some.after.now f.0 c.in-Some.base_size f.1 f.2 c.in_default-split_size.ensures body d

pub returns-then-base_size-base : goal.returns-then-base_size-base
returns-then-base_size-base g c =
    let f = c.in-Some.ensures in
    let s = c.in-Some-split_size.ensures in
    let differ = c.if-base_size-base.true in
    other_size c.args.base.now c.args.delta.now c.in-Some.after.now f.0 c.in-Some.base_size f.1 f.2 c.in-Some-split_size.commands.now s.0 c.in-Some-split_size.size s.1 s.2 c.args.most
    (λ (same, few). absurd (omega (arith, differ, same)))

pub returns-then-size-most : goal.returns-then-size-most
returns-then-size-most g c =
    let f = c.in-Some.ensures in
    let s = c.in-Some-split_size.ensures in
    let over = c.if-size-most.true in
    other_size c.args.base.now c.args.delta.now c.in-Some.after.now f.0 c.in-Some.base_size f.1 f.2 c.in-Some-split_size.commands.now s.0 c.in-Some-split_size.size s.1 s.2 c.args.most
    (λ (same, few). absurd (omega (arith, over, few)))

pub returns : goal.returns
returns g c =
    let f = c.in-Some.ensures in
    let s = c.in-Some-split_size.ensures in
    let same = c.if-base_size-base.false in
    let few = c.if-size-most.false in
    let least = c.if-delta-lt-MIN_DELTA.false in
    follow_delta c.args.base.now c.args.delta.now c.in-Some.after.now f.0 c.in-Some.base_size f.1 f.2 c.in-Some-split_size.commands.now s.0 c.in-Some-split_size.size s.1 s.2
    c.follow.result (λ v. v.items) c.args.most (omega (arith, least)) (omega (arith, same)) (omega (arith, few)) c.follow.ensures
