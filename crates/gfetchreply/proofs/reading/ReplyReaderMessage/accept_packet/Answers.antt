use Rattle.std.proofs.Common.{sym, subst, [], ◌∷◌, ◌++◌}
use Rattle.gpkt.specs.Packets.{packet_of}
use Rattle.gfetchreply.specs.FetchReplies.{judge, brings_into}
use Rattle.gfetchreply.specs.steps.ReplyState.{Holds, Leaves, TakesOr, kept_in}
use Rattle.gfetchreply.specs.Views.{reading_in}
use Rattle.gfetchreply.proofs.StateLemmas.{takes_after, as_packet}
use Rattle.gfetchreply.proofs.reading.ReplyReaderMessage.accept_packet.Goals as goal

pub returns-clause-takes : goal.returns-clause-takes
returns-clause-takes g c = λ front opened held.
    let Taken = Holds g.T.PackSink.taken g.T.PackSink.same g.L.Lent.accepted_before g.L.Lent.state_before g.L.Lent.address g.L.Lent.reading in
    let Left = Leaves g.T.PackSink.taken g.T.PackSink.same g.L.Lent.accepted_before g.L.Lent.state_before g.L.Lent.address g.L.Lent.reading in
    let new = c.take_packet.new.self in
    let packet = packet_of c.args.line in
    let asked = reading_in c.args.self.now.reader.reading in
    as_packet (judge asked) (brings_into g.T.PackSink.refuses asked)
    (λ message packets. Taken (reading_in message.reader.reading)
    (kept_in message.reader.sections) message.sink.now message.sink.ghost_name packets)
    (λ message packets. Left (reading_in message.reader.reading) message.sink.now message.sink.ghost_name packets)
    front packet new c.take_packet.result
    (subst (λ reading. TakesOr (judge asked front packet) (brings_into g.T.PackSink.refuses asked front packet)
    (Taken (reading_in reading) (kept_in new.reader.sections) new.sink.now new.sink.ghost_name (front ++ packet ∷ []))
    (Left (reading_in reading) new.sink.now new.sink.ghost_name front) c.take_packet.result)
    (sym c.take_packet.ensures.reading)
    (takes_after _ _ _ _ _ _ _ _ _ _ _ _ _ _ front packet c.take_packet.result held c.take_packet.ensures.in_place
    (λ start is. c.laws.ensures.onward start c.args.self.now.sink.now new.sink.now is c.take_packet.ensures.same)
    c.take_packet.ensures.takes))
