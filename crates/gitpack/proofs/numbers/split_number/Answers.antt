use Rattle.std.proofs.Common.{◌+◌, ◌++◌, ◌∙◌, drop, sym, ap, subst, arith}
use Rattle.std.proofs.lemmas.List.{take-append-drop}
use Rattle.gitpack.specs.Numbers.{IsNumber}
use Rattle.gitpack.proofs.NumberLemmas.{long_number, no_number, number_at}
use Rattle.gitpack.proofs.numbers.split_number.Goals as goal

pub returns-in_default : goal.returns-in_default
returns-in_default c text rest is short parts = no_number c.args.bytes.now c.in_default.ensures text rest is parts

pub returns-then-last-most : goal.returns-then-last-most
returns-then-last-most c text rest is short parts =
    long_number c.args.bytes.now c.in-Some.last c.args.most c.in-Some.ensures.2 c.if-last-most.true text rest is short parts

pub returns : goal.returns
returns c =
    let bytes = c.args.bytes.now in
    let last = c.in-Some.last in
    let found = c.in-Some.ensures in
    let halves = c.split_at.ensures in
    let long = halves.front_len in (
      subst IsNumber (sym halves.front) (number_at bytes last found.0 found.2 found.1),
      omega (arith, long),
      sym (take-append-drop (last + 1) bytes) ∙ ap (λ l. l ++ drop (last + 1) bytes) (sym halves.front)
          ∙ ap (λ l. c.split_at.result.0.now ++ l) (sym halves.back),
    )
