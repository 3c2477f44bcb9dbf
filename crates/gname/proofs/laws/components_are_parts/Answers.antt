use Rattle.gname.proofs.ComponentLemmas.{components_are_parts}
use Rattle.gname.proofs.laws.components_are_parts.Goals as goal

pub returns : goal.returns
returns c = components_are_parts
