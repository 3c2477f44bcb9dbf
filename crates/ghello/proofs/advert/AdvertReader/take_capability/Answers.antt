use Rattle.std.proofs.Common.{sym}
use Rattle.ggrammar.specs.CapabilityView.{capability_view}
use Rattle.ghello.proofs.AdvertLemmas.{capability_is_not_added}
use Rattle.ghello.proofs.advert.AdvertReader.take_capability.Goals as goal

pub returns-in-Err : goal.returns-in-Err
returns-in-Err g c =
    capability_is_not_added c.texts_are_classified.ensures.capabilities c.args.text.now (capability_view c.in-Some.capability) c.args.self.now.advert c.in-Err.fault.why (sym c.in-Some.ensures) c.in-Err.ensures.2
