use Rattle.grequest.proofs.WholeRequests.{HasEndings-judge, open_is_short}
use Rattle.grequest.proofs.reading.RequestReaderMessage.laws.Goals as goal

pub returns-clause-endings : goal.returns-clause-endings
returns-clause-endings g c = λ message. HasEndings-judge c.grammars_are_exact.ensures message.limits message.format

pub returns-clause-bounded : goal.returns-clause-bounded
returns-clause-bounded g c = λ message. open_is_short c.grammars_are_exact.ensures message.limits message.format
