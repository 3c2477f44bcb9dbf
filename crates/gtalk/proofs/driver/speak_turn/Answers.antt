use Rattle.std.proofs.Common.{◌∙◌, Ok, ap, refl}
use Rattle.std.proofs.KnownBytes.{Keeps-refl, Keeps-trans}
use Rattle.gtalk.proofs.Moves.{held_after}
use Rattle.gtalk.proofs.Driving.{first_now, later_nearer, later_nothing, said_as, said_fails, said_finished, said_finished, said_more, said_nothing, still}
use Rattle.gtalk.proofs.driver.speak_turn.Goals as goal

pub loop-connection-init : goal.loop-connection-init
loop-connection-init g c = record {
  says = said_nothing g.C.Conversation.holds g.C.Conversation.turn g.W.Sink.contents g.W.Sink.passed_on g.W.Sink.is_down c.args.connection.now _;
  stopped = refl;
  later = later_nothing g.C.Conversation.turn g.C.Conversation.left _;
  all_sent = c.requires.all_sent;
  passed_on = Keeps-refl _;
  down = refl;
  loans = refl;
}

pub say_some-requires-clause-held : goal.say_some-requires-clause-held
say_some-requires-clause-held g c =
    held_after g.C.Conversation.holds g.C.Conversation.turn _ _ _ _ _ c.loop-connection.invariant.says.sends.goes c.requires.held

pub loop-connection-preserved-then-sent : goal.loop-connection-preserved-then-sent
loop-connection-preserved-then-sent g c = record {
  says = said_as g.C.Conversation.holds g.C.Conversation.turn g.W.Sink.contents g.W.Sink.passed_on g.W.Sink.is_down _ _ _ _ _ _ (ap (λ x. Ok x) (still c.loop-connection.sent c.in-Ok.some c.if-sent.true))
      (said_more g.C.Conversation.holds g.C.Conversation.turn g.W.Sink.contents g.W.Sink.passed_on g.W.Sink.is_down c.loop-connection.sent c.in-Ok.some _ _ _ _ _ _ c.loop-connection.invariant.says (said_as g.C.Conversation.holds g.C.Conversation.turn g.W.Sink.contents g.W.Sink.passed_on g.W.Sink.is_down _ _ _ _ _ _ c.in-Ok.is c.say_some.ensures.says));
  stopped = c.say_some.ensures.stopped ∙ c.loop-connection.invariant.stopped;
  later = later_nearer g.C.Conversation.turn g.C.Conversation.left _ _ _ c.loop-connection.invariant.later c.in-Ok.ensures.nearer;
  all_sent = c.in-Ok.ensures.all_sent;
  passed_on = Keeps-trans _ _ _ c.loop-connection.invariant.passed_on c.say_some.ensures.passed_on;
  down = c.in-Ok.ensures.down ∙ c.loop-connection.invariant.down;
  loans = c.say_some.ensures.loans ∙ c.loop-connection.invariant.loans;
}

pub loop-connection-preserved : goal.loop-connection-preserved
loop-connection-preserved g c = record {
  says = said_as g.C.Conversation.holds g.C.Conversation.turn g.W.Sink.contents g.W.Sink.passed_on g.W.Sink.is_down _ _ _ _ _ _ (ap (λ x. Ok x) (first_now c.loop-connection.sent c.in-Ok.some c.if-sent.false))
      (said_more g.C.Conversation.holds g.C.Conversation.turn g.W.Sink.contents g.W.Sink.passed_on g.W.Sink.is_down c.loop-connection.sent c.in-Ok.some _ _ _ _ _ _ c.loop-connection.invariant.says (said_as g.C.Conversation.holds g.C.Conversation.turn g.W.Sink.contents g.W.Sink.passed_on g.W.Sink.is_down _ _ _ _ _ _ c.in-Ok.is c.say_some.ensures.says));
  stopped = c.say_some.ensures.stopped ∙ c.loop-connection.invariant.stopped;
  later = later_nearer g.C.Conversation.turn g.C.Conversation.left _ _ _ c.loop-connection.invariant.later c.in-Ok.ensures.nearer;
  all_sent = c.in-Ok.ensures.all_sent;
  passed_on = Keeps-trans _ _ _ c.loop-connection.invariant.passed_on c.say_some.ensures.passed_on;
  down = c.in-Ok.ensures.down ∙ c.loop-connection.invariant.down;
  loans = c.say_some.ensures.loans ∙ c.loop-connection.invariant.loans;
}

pub returns-in-Err-clause-says : goal.returns-in-Err-clause-says
returns-in-Err-clause-says g c =
    said_fails g.C.Conversation.holds g.C.Conversation.turn g.W.Sink.contents g.W.Sink.passed_on g.W.Sink.is_down c.loop-connection.sent c.in-Err.fault _ _ _ _ _ _ c.loop-connection.invariant.says
    (said_as g.C.Conversation.holds g.C.Conversation.turn g.W.Sink.contents g.W.Sink.passed_on g.W.Sink.is_down _ _ _ _ _ _ c.in-Err.is c.say_some.ensures.says)

pub returns-in-Ok-finish_turn-clause-says : goal.returns-in-Ok-finish_turn-clause-says
returns-in-Ok-finish_turn-clause-says g c =
    said_as g.C.Conversation.holds g.C.Conversation.turn g.W.Sink.contents g.W.Sink.passed_on g.W.Sink.is_down _ _ _ _ _ _ c.in-Ok-finish_turn.is
    (said_finished g.C.Conversation.holds g.C.Conversation.turn g.W.Sink.contents g.W.Sink.passed_on g.W.Sink.is_down c.loop-connection.sent c.finish_turn.result _ _ _ _ _ c.loop-connection.invariant.says c.finish_turn.ensures.bytes c.finish_turn.ensures.untouched
    c.finish_turn.ensures.sent c.finish_turn.ensures.some)

pub returns-in-Err-finish_turn-clause-says : goal.returns-in-Err-finish_turn-clause-says
returns-in-Err-finish_turn-clause-says g c =
    said_as g.C.Conversation.holds g.C.Conversation.turn g.W.Sink.contents g.W.Sink.passed_on g.W.Sink.is_down _ _ _ _ _ _ c.in-Err-finish_turn.is
    (said_finished g.C.Conversation.holds g.C.Conversation.turn g.W.Sink.contents g.W.Sink.passed_on g.W.Sink.is_down c.loop-connection.sent c.finish_turn.result _ _ _ _ _ c.loop-connection.invariant.says c.finish_turn.ensures.bytes c.finish_turn.ensures.untouched
    c.finish_turn.ensures.sent c.finish_turn.ensures.some)
