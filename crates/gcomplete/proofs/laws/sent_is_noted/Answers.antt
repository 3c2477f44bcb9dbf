use Rattle.gcomplete.proofs.Sending.{sent_noted}
use Rattle.gcomplete.proofs.laws.sent_is_noted.Goals as goal

pub returns : goal.returns
returns c = sent_noted
