use Rattle.gfetchreply.specs.Views.{reading_in}
use Rattle.gfetchreply.proofs.ReplyEndings.{HasEndings-judge, open_is_short}
use Rattle.gfetchreply.proofs.reading.ReplyReaderMessage.laws.Goals as goal

pub returns-clause-endings : goal.returns-clause-endings
returns-clause-endings g c = λ message. HasEndings-judge (reading_in message.reader.reading)

pub returns-clause-bounded : goal.returns-clause-bounded
returns-clause-bounded g c = λ message. open_is_short (reading_in message.reader.reading)
