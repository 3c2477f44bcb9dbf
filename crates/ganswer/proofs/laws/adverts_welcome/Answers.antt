use Rattle.ganswer.proofs.AdvertLemmas.{adverts_welcome}
use Rattle.ganswer.proofs.laws.adverts_welcome.Goals as goal

pub returns : goal.returns
returns c = adverts_welcome
