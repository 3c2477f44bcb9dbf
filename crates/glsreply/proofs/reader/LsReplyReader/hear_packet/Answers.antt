use Rattle.gpkt.specs.Packets.{packet_of}
use Rattle.glsreply.proofs.StateLemmas.{takes_packet}
use Rattle.glsreply.proofs.reader.LsReplyReader.hear_packet.Goals as goal

pub returns-clause-takes : goal.returns-clause-takes
returns-clause-takes g c = λ front opened held.
    takes_packet c.args.self.now c.take_packet.new.self front (packet_of c.args.line) c.take_packet.ensures.kept held c.take_packet.result c.take_packet.ensures.takes
