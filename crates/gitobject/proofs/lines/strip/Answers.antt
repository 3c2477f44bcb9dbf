use Rattle.gitobject.proofs.Cutting.{strip_cases}
use Rattle.gitobject.proofs.lines.strip.Goals as goal

pub returns : goal.returns
returns c = strip_cases c.args.word.now c.args.text.now c.strip_prefix.result c.strip_prefix.ensures.cases
