use Rattle.std.proofs.Common.{inr}
use Rattle.gtalk.proofs.Moves.{none_sent}
use Rattle.gtalk.proofs.Driving.{breaks_off, on_err}
use Rattle.gtalk.proofs.driver.drive.Goals as goal

pub returns-in-Ok-false-clause-broken : goal.returns-in-Ok-false-clause-broken
returns-in-Ok-false-clause-broken g c =
    on_err c.pass_on.result
    (breaks_off g.C.Conversation.holds g.C.Conversation.turn g.W.Sink.contents g.W.Sink.passed_on g.W.Sink.is_down c.in-Ok-false.field-0 c.args.connection.now c.converse.new.connection c.converse.new.connection _ _ _ _ _
    c.in-Ok-false.ensures.driven (inr c.in-Ok-false.ensures.done) c.in-Ok-false.ensures.all_sent
    (none_sent g.C.Conversation.holds g.C.Conversation.turn c.converse.new.connection _ _ c.pass_on.ensures.bytes))
    c.pass_on.ensures.kept
