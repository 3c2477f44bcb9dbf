use Rattle.gcomplete.proofs.Sending.{sent_fits}
use Rattle.gcomplete.proofs.laws.sent_is_fit.Goals as goal

pub returns : goal.returns
returns c = sent_fits
