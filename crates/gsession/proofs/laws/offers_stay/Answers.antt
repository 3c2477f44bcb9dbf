use Rattle.gsession.proofs.OfferLemmas.{offers_stay}
use Rattle.gsession.proofs.laws.offers_stay.Goals as goal

pub returns : goal.returns
returns g c = offers_stay c.distinct_are_once.ensures g.K.KeepingIndexer.indexes g.K.KeepingIndexer.index_fails
