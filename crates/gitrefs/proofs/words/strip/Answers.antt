use Rattle.gitrefs.proofs.Cutting.{strip_cases}
use Rattle.gitrefs.proofs.words.strip.Goals as goal

pub returns : goal.returns
returns c = strip_cases c.args.word.now c.args.text.now c.strip_prefix.result c.strip_prefix.ensures.cases
