use Rattle.std.proofs.Common.{refl, true}
use Rattle.gpkt.specs.Sending.{input_of, output_of}
use Rattle.gfetch.specs.Saying.{reply_rest}
use Rattle.gfetch.proofs.EndLemmas.{nothing_written}
use Rattle.gfetch.proofs.ListingLemmas.{listing_ends}
use Rattle.gfetch.proofs.listing.list.Goals as goal

pub returns-clause-ends : goal.returns-clause-ends
returns-clause-ends g c = λ asked begun.
    let input = input_of g.S.Source.remaining g.S.Source.is_down c.args.source.now c.run_dialogue.new.source in
    let output = output_of g.W.Sink.contents g.W.Sink.passed_on g.W.Sink.is_down c.args.sink.now c.run_dialogue.new.sink in
    listing_ends c.args.side asked begun c.grammars_are_exact.ensures c.endings.ensures.advert c.endings-2.ensures.endings input output
    c.run_dialogue.result.0 c.run_dialogue.result.1 _
    (nothing_written g.W.Sink.contents g.W.Sink.passed_on g.W.Sink.is_down _ _) c.run_dialogue.ensures.run c.run_dialogue.ensures.broken c.run_dialogue.ensures.down

pub run_dialogue-requires-clause-opens : goal.run_dialogue-requires-clause-opens
run_dialogue-requires-clause-opens g c = (c.requires, (refl, refl))

pub run_dialogue-requires-clause-completes : goal.run_dialogue-requires-clause-completes
run_dialogue-requires-clause-completes g c = λ reply. (reply_rest reply, true, (refl, refl))
