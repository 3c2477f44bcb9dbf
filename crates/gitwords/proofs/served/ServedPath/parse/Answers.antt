use Rattle.std.proofs.Common.{lit<, sym, None, Some}
use Rattle.std.proofs.lemmas.Str.Pattern.{strip_prefix_char}
use Rattle.gitwords.proofs.ServedLemmas.{not_served, not_slashed}
use Rattle.gitwords.proofs.served.ServedPath.parse.Goals as goal

pub returns-in_default : goal.returns-in_default
returns-in_default c = not_slashed c.args.path.now (strip_prefix_char 47 c.args.path.now None c.in_default.ensures.cases (lit< tt))

pub returns-else-has_names : goal.returns-else-has_names
returns-else-has_names c =
    not_served c.args.path.now c.in-Some.rest.now c.without_last_slash-relative.result.now
    (strip_prefix_char 47 c.args.path.now (Some c.in-Some.rest) c.in-Some.ensures.cases (lit< tt))
    (sym c.if-has_names.ensures) c.without_last_slash-relative.ensures
