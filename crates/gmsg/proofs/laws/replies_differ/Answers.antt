use Rattle.gmsg.proofs.ReplyKinds.{none_begins_as_both}
use Rattle.gmsg.proofs.laws.replies_differ.Goals as goal

pub returns : goal.returns
returns c = none_begins_as_both c.one_begins.ensures c.manual.ensures.ls_reply c.manual.ensures.fetch_reply
