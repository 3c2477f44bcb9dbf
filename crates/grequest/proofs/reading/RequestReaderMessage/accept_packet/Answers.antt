use Rattle.gpkt.specs.Packets.{packet_of}
use Rattle.grequest.proofs.ReaderLemmas.{takes_after}
use Rattle.grequest.proofs.reading.RequestReaderMessage.accept_packet.Goals as goal

pub returns-clause-takes : goal.returns-clause-takes
returns-clause-takes g c = λ front opened held.
    takes_after c.args.self.now c.take_packet.new.self front (packet_of c.args.line) c.take_packet.result held c.take_packet.ensures.format c.take_packet.ensures.takes
