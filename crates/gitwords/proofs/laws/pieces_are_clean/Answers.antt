use Rattle.gitwords.proofs.CleanLemmas.{pieces}
use Rattle.gitwords.proofs.laws.pieces_are_clean.Goals as goal

pub returns : goal.returns
returns c = pieces
