use Rattle.gdag.proofs.OfferLaws as laws
use Rattle.gdag.proofs.laws.distinct_are_once.Goals as goal

pub returns : goal.returns
returns c = laws.distinct_are_once
