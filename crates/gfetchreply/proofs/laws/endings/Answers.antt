use Rattle.gfetchreply.specs.FetchReplies.{judge}
use Rattle.gfetchreply.proofs.ReplyEndings.{HasEndings-judge, short_ending}
use Rattle.gfetchreply.proofs.laws.endings.Goals as goal

pub returns-clause-endings : goal.returns-clause-endings
returns-clause-endings c = HasEndings-judge

pub returns-clause-short : goal.returns-clause-short
returns-clause-short c = short_ending

pub returns-clause-first : goal.returns-clause-first
returns-clause-first c = λ reading. (c.grammars_are_exact.ensures (judge reading)).misfits (HasEndings-judge reading)
