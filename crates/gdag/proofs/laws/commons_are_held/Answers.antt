use Rattle.gdag.proofs.OfferLaws as laws
use Rattle.gdag.proofs.laws.commons_are_held.Goals as goal

pub returns : goal.returns
returns g c = λ h haves. laws.commons_are_held h haves
