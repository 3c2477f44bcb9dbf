use Rattle.glsreply.proofs.reader.LsReplyReaderMessage.accept_packet.Goals as goal

pub returns-clause-takes : goal.returns-clause-takes
returns-clause-takes g c = λ front opened held. c.hear_packet.ensures.takes front opened held
