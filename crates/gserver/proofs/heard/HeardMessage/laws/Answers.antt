use Rattle.gserver.proofs.HeardLemmas.{bounded_of, endings_of}
use Rattle.gserver.proofs.heard.HeardMessage.laws.Goals as goal

pub returns-clause-endings : goal.returns-clause-endings
returns-clause-endings g c = endings_of c.laws.ensures.endings c.laws-2.ensures.endings

pub returns-clause-bounded : goal.returns-clause-bounded
returns-clause-bounded g c = bounded_of _ c.laws.ensures.bounded c.laws-2.ensures.bounded
