use Rattle.gitwords.proofs.UrlLemmas.{urls_have_one_reading}
use Rattle.gitwords.proofs.laws.urls_have_one_reading.Goals as goal

pub returns : goal.returns
returns c = urls_have_one_reading
