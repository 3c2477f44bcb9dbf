use Rattle.gpkt.specs.Packets.{packet_of}
use Rattle.gfetch.proofs.HeardLemmas.{hears_advert, hears_objects, hears_refs}
use Rattle.gfetch.proofs.side.ClientSideSideHeardFeedClientReply.hear.Goals as goal

pub returns-in-Advert : goal.returns-in-Advert
returns-in-Advert g c = λ front goes held.
    let session = c.args.self.now.client.session in
    hears_advert session g.K.KeepingIndexer.fed g.K.KeepingIndexer.index_fails front (packet_of c.args.line) c.accept_packet.result session.pending
    c.in-Advert.reader c.accept_packet.new.self goes (rw c.in-Advert.is at held)
    (c.accept_packet.ensures.takes front)

pub returns-in-Refs : goal.returns-in-Refs
returns-in-Refs g c = λ front goes held.
    let session = c.args.self.now.client.session in
    hears_refs session g.K.KeepingIndexer.fed g.K.KeepingIndexer.index_fails front (packet_of c.args.line) c.hear_packet.result session.pending
    c.in-Refs.reader c.hear_packet.new.self goes (rw c.in-Refs.is at held) c.hear_packet.ensures.kept.0 c.hear_packet.ensures.kept.1
    (c.hear_packet.ensures.takes front)

pub returns-in-Objects : goal.returns-in-Objects
returns-in-Objects g c = λ front goes held.
    let session = c.args.self.now.client.session in
    hears_objects session g.K.KeepingIndexer.fed g.K.KeepingIndexer.index_fails front (packet_of c.args.line) c.hear_packet-in-Objects.result session.pending
    c.in-Objects.reader c.hear_packet-in-Objects.new.self goes (rw c.in-Objects.is at held)
    (λ reading. c.hear_packet-in-Objects.ensures reading front)
