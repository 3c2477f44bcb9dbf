use Rattle.std.proofs.Common.{refl}
use Rattle.glsreply.specs.LsReplies.{reply_of}
use Rattle.glsreply.proofs.laws.says_whole.Goals as goal

pub returns : goal.returns
returns c = λ format ends packets. (
  λ whole. (reply_of format packets, record { whole = whole; says = refl }),
  λ said. said.1.whole,
)
