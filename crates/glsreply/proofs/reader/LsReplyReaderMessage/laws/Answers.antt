use Rattle.glsreply.proofs.LawLemmas.{has_endings}
use Rattle.glsreply.proofs.TableLemmas.{is_bounded}
use Rattle.glsreply.proofs.reader.LsReplyReaderMessage.laws.Goals as goal

pub returns-clause-endings : goal.returns-clause-endings
returns-clause-endings g c = λ message. has_endings c.grammars_are_exact.ensures message.format message.ends

pub returns-clause-bounded : goal.returns-clause-bounded
returns-clause-bounded g c = λ message. is_bounded message.format message.ends
