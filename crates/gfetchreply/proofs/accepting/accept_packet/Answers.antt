use Rattle.std.proofs.Common.{refl}
use Rattle.gpkt.specs.Packets.{Flush, Delim, ResponseEnd}
use Rattle.gfetchreply.specs.steps.Views.{reading_with}
use Rattle.gfetchreply.specs.steps.ReplyState.{state_in}
use Rattle.gfetchreply.proofs.StateLemmas.{judged_as, past_sink}
use Rattle.gfetchreply.proofs.ReplyVerdicts.{at_place, data_judged}
use Rattle.gfetchreply.proofs.accepting.accept_packet.Goals as goal

pub returns-in-Data-clause-takes : goal.returns-in-Data-clause-takes
returns-in-Data-clause-takes g c =
    let asked = reading_with c.args.reading c.args.sections.now in
    rw c.in-Data.is (judged_as g.T.PackSink.taken _ _ _ _ _ _
    (data_judged asked (state_in c.args.sections.now) _ c.in-Data.payload.now refl) _
    c.accept_payload.ensures.takes)

pub returns-in-Flush-clause-takes : goal.returns-in-Flush-clause-takes
returns-in-Flush-clause-takes g c =
    let asked = reading_with c.args.reading c.args.sections.now in
    rw c.in-Flush.is
    (past_sink g.T.PackSink.taken _ _ _ _ (at_place asked (state_in c.args.sections.now) _ Flush refl)
    _ (c.take_flush.ensures asked refl))

pub returns-in-Delim-clause-takes : goal.returns-in-Delim-clause-takes
returns-in-Delim-clause-takes g c =
    let asked = reading_with c.args.reading c.args.sections.now in
    rw c.in-Delim.is
    (past_sink g.T.PackSink.taken _ _ _ _ (at_place asked (state_in c.args.sections.now) _ Delim refl)
    _ (c.take_delim.ensures asked))

pub returns-in-ResponseEnd-clause-takes : goal.returns-in-ResponseEnd-clause-takes
returns-in-ResponseEnd-clause-takes g c =
    let asked = reading_with c.args.reading c.args.sections.now in
    rw c.in-ResponseEnd.is (past_sink g.T.PackSink.taken _ _ _ _
    (at_place asked (state_in c.args.sections.now) _ ResponseEnd refl) _ (c.take_response_end.ensures asked))
