use Rattle.std.proofs.Common.{◌++◌, ◌∙◌, ap, arith, sym, drop}
use Rattle.std.proofs.lemmas.List.{take-append-drop}
use Rattle.gitpack.proofs.DeltaLemmas.{copy_found, copy_outside, insertion_found}
use Rattle.gitpack.proofs.delta.split_instruction.Goals as goal

pub returns-in_default-part_of : goal.returns-in_default-part_of
returns-in_default-part_of c =
    let f = c.in-Some-split_copy.ensures.cases in
    copy_outside c.args.base.now c.args.text.now c.in-Some.command.now c.in-Some.after.now c.in-Some.ensures.cases.0 c.in-Some-split_copy.copy.offset c.in-Some-split_copy.copy.size f.0 c.in-Some-split_copy.rest.now f.1 f.2 c.in_default-part_of.ensures

pub returns-then-command-ge-COPIES : goal.returns-then-command-ge-COPIES
returns-then-command-ge-COPIES c =
    let f = c.in-Some-split_copy.ensures.cases in
    let p = c.in-Some-part_of.ensures in
    copy_found c.args.base.now c.args.text.now c.in-Some.command.now c.in-Some.after.now c.in-Some.ensures.cases.0 c.in-Some-split_copy.copy.offset c.in-Some-split_copy.copy.size f.0 c.in-Some-split_copy.rest.now c.in-Some-part_of.part.now f.1 f.2 p.0 p.1

pub returns : goal.returns
returns c =
    let some = c.if-command-eq0.false in
    let low = c.if-command-ge-COPIES.false in
    let s = c.in-Some-split_at_checked.ensures.cases in
    let n = c.from.ensures in
    let k = s.3 in
    insertion_found c.args.base.now c.args.text.now c.in-Some.command.now c.in-Some.after.now c.in-Some.ensures.cases.0 (omega (arith, some)) (omega (arith, low))
    c.in-Some-split_at_checked.bytes.now c.in-Some-split_at_checked.rest.now (omega (arith, n, k))
    (sym (take-append-drop c.from.result c.in-Some.after.now) ∙ ap (λ l. l ++ drop c.from.result c.in-Some.after.now) (sym s.1) ∙ ap (λ l. c.in-Some-split_at_checked.bytes.now ++ l) (sym s.2))
