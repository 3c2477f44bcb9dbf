use Rattle.gitrefs.proofs.TextLemmas.{names_descend}
use Rattle.gitrefs.proofs.laws.names_descend.Goals as goal

pub returns : goal.returns
returns c = names_descend c.components_are_parts.ensures
