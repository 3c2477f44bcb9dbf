use Rattle.std.proofs.Common.{refl}
use Rattle.gpkt.specs.Packets.{packet_of}
use Rattle.gfetchreply.specs.FetchReplies.{judge, brings_into}
use Rattle.gfetchreply.specs.steps.ReplyState.{HoldsReply, kept_in}
use Rattle.gfetchreply.specs.Views.{reading_in}
use Rattle.gfetchreply.specs.declared.reader.FetchReader.{FetchReader}
use Rattle.gfetchreply.proofs.StateLemmas.{accepts, as_packet}
use Rattle.gfetchreply.proofs.reader.FetchReader.hear_packet.Goals as goal

pub returns-clause-takes : goal.returns-clause-takes
returns-clause-takes g c = λ front opened held.
    let old = c.args.self.now in
    let asked = reading_in old.reading in
    let sections = c.accept_packet.new.sections in
    let sink = c.accept_packet.new.sink in
    as_packet (judge asked) (brings_into g.T.PackSink.refuses asked)
    (λ (reader : FetchReader g.row.A.Denot) packets. HoldsReply g.T.PackSink.taken g.T.PackSink.same (reading_in reader.reading)
    (kept_in reader.sections) sink packets)
    (λ reader packets. Unit {0}) front (packet_of c.args.line) _ c.accept_packet.result
    (accepts g.T.PackSink.taken g.T.PackSink.same g.T.PackSink.refuses asked asked
    (kept_in old.sections) (kept_in sections) c.args.sink.now sink front (packet_of c.args.line)
    c.accept_packet.result refl held
    (λ start is. c.laws.ensures.onward start c.args.sink.now sink is c.accept_packet.ensures.same)
    c.accept_packet.ensures.takes)
