use Rattle.std.proofs.Common.{◌≢◌, lit<, None, Some}
use Rattle.std.proofs.lemmas.List.Elements.{All-from_get_or}
use Rattle.std.proofs.lemmas.Str.Pattern.{find_char}
use Rattle.gitwords.proofs.CutLemmas.{path_parts}
use Rattle.gitwords.proofs.url.split_path.Goals as goal

pub returns-in-Some : goal.returns-in-Some
returns-in-Some c =
    path_parts c.args.text.now c.split_at.result.0.now c.split_at.result.1.now c.in-Some.at c.split_at.ensures.front c.split_at.ensures.back
    (find_char 47 c.args.text.now (Some c.in-Some.at) c.in-Some.ensures.cases (lit< tt))

pub returns-in-None : goal.returns-in-None
returns-in-None c = All-from_get_or (λ b. b ≢ 47) c.args.text.now 0 (find_char 47 c.args.text.now None c.in-None.ensures.cases (lit< tt))
