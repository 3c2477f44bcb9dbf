use Rattle.gpkt.specs.Packets.{packet_of}
use Rattle.gfetch.proofs.ListingLemmas.{list_hears_advert, list_hears_refs}
use Rattle.gfetch.proofs.listing.ListSideSideListHeardClientReply.hear.Goals as goal

pub returns-in-Advert : goal.returns-in-Advert
returns-in-Advert g c = λ front goes held.
    list_hears_advert front (packet_of c.args.line) c.accept_packet.result c.args.self.now.stage
    c.in-Advert.reader c.accept_packet.new.self goes (rw c.in-Advert.is at held) (c.accept_packet.ensures.takes front)

pub returns-in-Refs : goal.returns-in-Refs
returns-in-Refs g c = λ front goes held.
    list_hears_refs front (packet_of c.args.line) c.hear_packet.result c.args.self.now.stage
    c.in-Refs.reader c.hear_packet.new.self goes (rw c.in-Refs.is at held) c.hear_packet.ensures.kept.0 c.hear_packet.ensures.kept.1
    (c.hear_packet.ensures.takes front)
