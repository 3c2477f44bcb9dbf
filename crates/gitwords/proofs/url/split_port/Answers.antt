use Rattle.gitwords.proofs.CutLemmas.{colon_parts}
use Rattle.gitwords.proofs.url.split_port.Goals as goal

pub returns : goal.returns
returns c = colon_parts c.args.text.now c.rsplit_once.result c.rsplit_once.ensures.cases
