use Rattle.std.proofs.Common.{ℕ, ◌+◌, ◌*◌, ◌%◌, ◌<◌, take, arith, ◌∙◌, ap, subst, sym}
use Rattle.std.specs.Str.Parse.{digits_value}
use Rattle.std.proofs.lemmas.Int.Digits.{digits_more, digits_value_more}
use Rattle.gitobject.proofs.Octal.{bits_more, digit_at}
use Rattle.gitobject.proofs.modes.file_type.Goals as goal

pub returns-in_default : goal.returns-in_default
returns-in_default c is = c.in_default.ensures (digit_at c.args.mode.now c.loop-byte.byte-index (omega arith) is.1)

pub loop-byte-preserved : goal.loop-byte-preserved
loop-byte-preserved c =
    let mode = c.args.mode.now in let i = c.loop-byte.byte-index in
    let v : ℕ = digits_value 8 (take i mode) in
    let P : ℕ → Type 0 = λ n. n < 8 in record {
      octal = digits_more 8 mode i c.loop-byte-test.true c.loop-byte.invariant.octal (subst P c.in-Some.ensures.0 c.in-Some.ensures.1);
      bits =
          bits_more v c.loop-byte.number c.in-Some.digit c.loop-byte.invariant.bits
          ∙ ap (λ d. (v * 8 + d) % 65536) c.in-Some.ensures.0
          ∙ ap (λ n. n % 65536) (sym (digits_value_more 8 mode i c.loop-byte-test.true));
    }
