use Rattle.ghello.proofs.AdvertLemmas.{AreCapabilities-push}
use Rattle.ghello.proofs.advert.Advert.add.Goals as goal

pub invariant_of-self-2 : goal.invariant_of-self-2
invariant_of-self-2 g c =
    rw c.in_ok-push.ensures.items
    (AreCapabilities-push c.self.inside.capabilities.items _ c.self.invariant (rw c.in_ok-capability.ensures c.requires.form) (rw c.self.view_is c.requires.room))
