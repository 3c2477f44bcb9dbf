use Rattle.std.proofs.Common.{inr, refl, lit<, None}
use Rattle.std.proofs.lemmas.Str.Pattern.{strip_suffix_char}
use Rattle.gitwords.proofs.served.without_last_slash.Goals as goal

pub returns-in-None : goal.returns-in-None
returns-in-None c = inr (refl, strip_suffix_char 47 c.args.text.now None c.in-None.ensures.cases (lit< tt))
