use Rattle.std.proofs.Common.{subst, sym, ◌∙◌}
use Rattle.gpkt.specs.Packets.{packet_of}
use Rattle.gsession.specs.declared.feed.PackFeed.{PackFeed}
use Rattle.gsession.specs.steps.Calls.{MayHaveFed}
use Rattle.gsession.proofs.ReplyLemmas.{takes_objects}
use Rattle.gsession.proofs.reader.ObjectsReader.hear_packet.Goals as goal

pub returns : goal.returns
returns g c = λ reading front opened holds.
    let Fed = MayHaveFed g.K.KeepingIndexer.fed g.K.KeepingIndexer.index_fails in
    takes_objects g.K.KeepingIndexer.fed g.K.KeepingIndexer.index_fails
    (λ (sink : PackFeed g.row.K.Denot g.row.A.Denot g.row.F.Denot) bytes. Fed sink.feed bytes) (λ one other. Unit {0})
    reading c.args.self.now (record { reply = c.hear_packet-heard.new.self; feed = c.into_feed.result })
    c.resume-sink.result c.hear_packet-heard.new.sink front (packet_of c.args.line)
    (λ bytes had. subst (λ feed. Fed feed bytes) (sym (c.resume-sink.ensures ∙ c.replace-feed.ensures.value)) had)
    (λ bytes had. subst (λ feed. Fed feed bytes) (sym c.into_feed.ensures) had)
    c.hear_packet-heard.ensures.reading holds c.hear_packet-heard.result (c.hear_packet-heard.ensures.takes front) opened
