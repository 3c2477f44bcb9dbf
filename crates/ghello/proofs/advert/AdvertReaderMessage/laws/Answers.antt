use Rattle.ghello.proofs.Manual.{advert_has_endings, open_is_short}
use Rattle.ghello.proofs.advert.AdvertReaderMessage.laws.Goals as goal

pub returns-clause-endings : goal.returns-clause-endings
returns-clause-endings g c = λ message. advert_has_endings (c.grammars_are_exact.ensures _)

pub returns-clause-bounded : goal.returns-clause-bounded
returns-clause-bounded g c = λ message. open_is_short
