use Rattle.std.proofs.Common.{lit<, None, Some}
use Rattle.std.proofs.lemmas.Str.Pattern.{strip_prefix_char, strip_suffix_char}
use Rattle.gitwords.proofs.CutLemmas.{bracket_parts, no_bracket}
use Rattle.gitwords.proofs.url.in_brackets.Goals as goal

pub returns-in_err-rest : goal.returns-in_err-rest
returns-in_err-rest c =
    rw c.from_residual.ensures (no_bracket c.args.text.now (strip_prefix_char 91 c.args.text.now None c.in_err-rest.ensures.cases (lit< tt)))

pub returns : goal.returns
returns c =
    bracket_parts c.args.text.now c.in_ok-rest.rest.now
    (strip_prefix_char 91 c.args.text.now (Some c.in_ok-rest.rest) c.in_ok-rest.ensures.cases (lit< tt))
    c.strip_suffix.result
    (strip_suffix_char 93 c.in_ok-rest.rest.now c.strip_suffix.result c.strip_suffix.ensures.cases (lit< tt))
