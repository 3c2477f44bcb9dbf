use Rattle.ggrammar.proofs.CapabilityLemmas.{capability_is_its_text}
use Rattle.ggrammar.proofs.IdLemmas.{id_is_spelt}
use Rattle.ggrammar.proofs.laws.texts_are_classified.Goals as goal

pub returns : goal.returns
returns c = record { ids = id_is_spelt; capabilities = capability_is_its_text }
