use Rattle.std.proofs.Common.{refl}
use Rattle.gpkt.specs.Sending.{input_of, output_of}
use Rattle.ggrammar.specs.Limits.{profile}
use Rattle.gserver.proofs.CompletionLemmas.{reply_completes}
use Rattle.gserver.proofs.TalkLemmas.{nothing_written, talk_ends}
use Rattle.gserver.proofs.serving.talk.Goals as goal

pub returns-clause-ends : goal.returns-clause-ends
returns-clause-ends g c =
    let input = input_of g.S.Source.remaining g.S.Source.is_down c.args.source.now c.run_dialogue.new.source in
    let output = output_of g.W.Sink.contents g.W.Sink.passed_on g.W.Sink.is_down c.args.sink.now c.run_dialogue.new.sink in
    talk_ends g.K.Recorded.once g.K.Recorded.packs g.K.Recorded.fails c.args.side c.grammars_are_exact.ensures
    (c.endings.ensures.each profile c.args.side.server.now.graph.format) input output c.run_dialogue.result.0 c.run_dialogue.result.1 _
    (nothing_written g.W.Sink.contents g.W.Sink.passed_on g.W.Sink.is_down _ _) c.run_dialogue.ensures.run c.run_dialogue.ensures.broken c.run_dialogue.ensures.down

pub run_dialogue-requires-clause-opens : goal.run_dialogue-requires-clause-opens
run_dialogue-requires-clause-opens g c = (c.requires, (refl, refl))

pub run_dialogue-requires-clause-completes : goal.run_dialogue-requires-clause-completes
run_dialogue-requires-clause-completes g c = reply_completes
