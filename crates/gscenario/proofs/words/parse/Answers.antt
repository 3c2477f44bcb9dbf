use Rattle.std.proofs.Common.{◌∙◌, sym, subst}
use Rattle.std.proofs.lemmas.Fmt.{IsAscii-decimal, parse-decimal}
use Rattle.std.proofs.lemmas.Str.{IsUtf8-from_ascii}
use Rattle.std.specs.Str.{IsAscii}
use Rattle.gscenario.proofs.words.parse.Goals as goal

pub returns-in-Ok-parse : goal.returns-in-Ok-parse
returns-in-Ok-parse c = λ number below is.
    let told = parse-decimal 64 number c.in-Ok.digits.now c.parse.result below below (c.in-Ok.ensures.cases.0 ∙ is)
    c.parse.ensures.value.0 in
    let found = c.in-Ok-parse.is in
    cc

pub returns-in-Err-parse : goal.returns-in-Err-parse
returns-in-Err-parse c = λ number below is.
    let told = parse-decimal 64 number c.in-Ok.digits.now c.parse.result below below (c.in-Ok.ensures.cases.0 ∙ is)
    c.parse.ensures.value.0 in
    let found = c.in-Err-parse.is in
    cc

pub returns-in-Err : goal.returns-in-Err
returns-in-Err c = λ number below is.
    c.in-Err.ensures.cases.0 (IsUtf8-from_ascii c.args.text.now (subst IsAscii (sym is) (IsAscii-decimal number below)))
