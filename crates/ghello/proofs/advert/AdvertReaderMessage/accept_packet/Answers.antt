use Rattle.gpkt.specs.Packets.{packet_of}
use Rattle.ghello.proofs.AdvertLemmas.{advert_takes}
use Rattle.ghello.proofs.advert.AdvertReaderMessage.accept_packet.Goals as goal

pub returns-clause-takes : goal.returns-clause-takes
returns-clause-takes g c = λ front opened held.
    advert_takes (λ reader. reader.has_version) (λ reader. reader.advert) c.texts_are_read.ensures.more front (packet_of c.args.line) c.args.self.now c.take_packet.new.self c.take_packet.result held c.take_packet.ensures
