use Rattle.ghello.proofs.AdvertLemmas.{lent_key_within, lent_value_within}
use Rattle.ghello.proofs.advert.OwnedCapability.write.Goals as goal

pub compose-requires-clause-key : goal.compose-requires-clause-key
compose-requires-clause-key g c = lent_key_within c.as_capability.result c.args.self.now c.as_capability.ensures c.requires

pub compose-requires-clause-value : goal.compose-requires-clause-value
compose-requires-clause-value g c = lent_value_within c.as_capability.result c.args.self.now c.as_capability.ensures c.requires
