use Rattle.gfetchreply.proofs.ReplyLemmas.{says_whole}
use Rattle.gfetchreply.proofs.ReplyManual.{one_value}
use Rattle.gfetchreply.proofs.laws.one_meaning.Goals as goal

pub returns-clause-meaning : goal.returns-clause-meaning
returns-clause-meaning c = one_value

pub returns-clause-whole : goal.returns-clause-whole
returns-clause-whole c = says_whole
