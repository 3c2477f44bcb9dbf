use Rattle.gpkt.specs.Packets.{packet_of}
use Rattle.ghello.proofs.HelloLemmas.{hello_takes}
use Rattle.ghello.proofs.hello.HelloReaderMessage.accept_packet.Goals as goal

pub returns-clause-takes : goal.returns-clause-takes
returns-clause-takes g c = λ front opened held.
    hello_takes (λ reader. reader.hello) front (packet_of c.args.line) c.take_packet.new.self c.take_packet.result opened c.take_packet.ensures
