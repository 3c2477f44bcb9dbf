use Rattle.gfetchreply.proofs.ReplyManual.{manual_from_says, says_from_manual}
use Rattle.gfetchreply.proofs.laws.manual.Goals as goal

pub returns : goal.returns
returns c = λ reading packets reply. (manual_from_says reading packets reply, says_from_manual reading packets reply)
