use Rattle.glsreply.proofs.TableLemmas.{count_packets}
use Rattle.glsreply.proofs.laws.last_frame.Goals as goal

pub returns : goal.returns
returns c = λ format ends packets reply says. count_packets format ends packets reply ((c.manual.ensures format ends packets reply).0 says)
