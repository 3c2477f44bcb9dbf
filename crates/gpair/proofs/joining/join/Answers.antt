use Rattle.std.proofs.Common.{ap, refl, ◌∙◌}
use Rattle.gtalk.specs.Talks.{AnyTalk}
use Rattle.gtalk.proofs.Moves.{driven_any, held_after, more_said}
use Rattle.gtalk.proofs.Driving.{driven_heard, driven_nothing, driven_said, drove_as, fails_by, first_now, said_as, still}
use Rattle.gpair.proofs.JoinLemmas.{drives_heard, drives_nothing, drives_then, same_sink}
use Rattle.gpair.proofs.joining.join.Goals as goal

pub loop-near-init : goal.loop-near-init
loop-near-init g c = record {
  driven = driven_nothing g.C.Conversation.holds g.C.Conversation.turn g.W.Sink.contents g.W.Sink.passed_on g.W.Sink.is_down c.args.near.now.connection _ _;
  all_sent = c.requires.all_sent;
  down = refl;
  far = drives_nothing g.D.Conversation.holds g.D.Conversation.turn c.args.far.now.connection _ _;
  source_loans = refl;
  sink_loans = refl;
  far_source_loans = refl;
  far_sink_loans = refl;
}

pub listen_to-requires-clause-held : goal.listen_to-requires-clause-held
listen_to-requires-clause-held g c =
    held_after g.C.Conversation.holds g.C.Conversation.turn _ _ _ _ _ c.loop-near.invariant.driven.drives.goes c.requires.held

pub listen_to-requires-clause-far_held : goal.listen_to-requires-clause-far_held
listen_to-requires-clause-far_held g c =
    held_after g.D.Conversation.holds g.D.Conversation.turn _ _ _ _ _ c.loop-near.invariant.far.goes c.requires.far_held

pub speak_turn-requires-clause-held : goal.speak_turn-requires-clause-held
speak_turn-requires-clause-held g c =
    held_after g.C.Conversation.holds g.C.Conversation.turn _ _ _ _ _ c.loop-near.invariant.driven.drives.goes c.requires.held

pub listen-requires : goal.listen-requires
listen-requires g c = record {
  held = held_after g.D.Conversation.holds g.D.Conversation.turn _ _ _ _ _ c.loop-near.invariant.far.goes c.requires.far_held;
}

pub loop-near-preserved-in-Listens : goal.loop-near-preserved-in-Listens
loop-near-preserved-in-Listens g c = record {
  driven = same_sink g.C.Conversation.holds g.C.Conversation.turn g.W.Sink.contents g.W.Sink.passed_on g.W.Sink.is_down c.loop-near.passed _ _ _ _ _ _ c.listen_to.ensures.sink
      (driven_heard g.C.Conversation.holds g.C.Conversation.turn g.W.Sink.contents g.W.Sink.passed_on g.W.Sink.is_down _ _ _ _ _ _ _ _ _ c.in-Listens.ensures.0 c.loop-near.invariant.driven c.listen_to.ensures.hears);
  all_sent = c.listen_to.ensures.pending ∙ c.loop-near.invariant.all_sent;
  down = ap g.W.Sink.is_down c.listen_to.ensures.sink ∙ c.loop-near.invariant.down;
  far = drives_then g.D.Conversation.holds g.D.Conversation.turn _ _ _ _ _ _ _ _ _ c.loop-near.invariant.far c.listen_to.ensures.far;
  source_loans = c.listen_to.ensures.source_loans ∙ c.loop-near.invariant.source_loans;
  sink_loans = ap g.W.Sink.loans c.listen_to.ensures.sink ∙ c.loop-near.invariant.sink_loans;
  far_source_loans = c.listen_to.ensures.far_source_loans ∙ c.loop-near.invariant.far_source_loans;
  far_sink_loans = c.listen_to.ensures.far_sink_loans ∙ c.loop-near.invariant.far_sink_loans;
}

pub loop-near-preserved-then-passed : goal.loop-near-preserved-then-passed
loop-near-preserved-then-passed g c = record {
  driven = drove_as g.C.Conversation.holds g.C.Conversation.turn g.W.Sink.contents g.W.Sink.passed_on g.W.Sink.is_down _ _ _ _ _ _ _ _ (still c.loop-near.passed c.in-Ok.sent c.if-passed.true)
      (driven_said g.C.Conversation.holds g.C.Conversation.turn g.W.Sink.contents g.W.Sink.passed_on g.W.Sink.is_down c.loop-near.passed c.in-Ok.sent _ _ _ _ _ _ _ _
      c.loop-near.invariant.driven (said_as g.C.Conversation.holds g.C.Conversation.turn g.W.Sink.contents g.W.Sink.passed_on g.W.Sink.is_down _ _ _ _ _ _ c.in-Ok.is c.speak_turn.ensures.says) c.in-Ok.ensures.over c.in-Ok.ensures.passed_on c.in-Ok.ensures.up);
  all_sent = c.in-Ok.ensures.all_sent;
  down = c.in-Ok.ensures.down ∙ c.loop-near.invariant.down;
  far = c.loop-near.invariant.far;
  source_loans = c.loop-near.invariant.source_loans;
  sink_loans = c.speak_turn.ensures.loans ∙ c.loop-near.invariant.sink_loans;
  far_source_loans = c.loop-near.invariant.far_source_loans;
  far_sink_loans = c.loop-near.invariant.far_sink_loans;
}

pub loop-near-preserved : goal.loop-near-preserved
loop-near-preserved g c = record {
  driven = drove_as g.C.Conversation.holds g.C.Conversation.turn g.W.Sink.contents g.W.Sink.passed_on g.W.Sink.is_down _ _ _ _ _ _ _ _ (first_now c.loop-near.passed c.in-Ok.sent c.if-passed.false)
      (driven_said g.C.Conversation.holds g.C.Conversation.turn g.W.Sink.contents g.W.Sink.passed_on g.W.Sink.is_down c.loop-near.passed c.in-Ok.sent _ _ _ _ _ _ _ _
      c.loop-near.invariant.driven (said_as g.C.Conversation.holds g.C.Conversation.turn g.W.Sink.contents g.W.Sink.passed_on g.W.Sink.is_down _ _ _ _ _ _ c.in-Ok.is c.speak_turn.ensures.says) c.in-Ok.ensures.over c.in-Ok.ensures.passed_on c.in-Ok.ensures.up);
  all_sent = c.in-Ok.ensures.all_sent;
  down = c.in-Ok.ensures.down ∙ c.loop-near.invariant.down;
  far = c.loop-near.invariant.far;
  source_loans = c.loop-near.invariant.source_loans;
  sink_loans = c.speak_turn.ensures.loans ∙ c.loop-near.invariant.sink_loans;
  far_source_loans = c.loop-near.invariant.far_source_loans;
  far_sink_loans = c.loop-near.invariant.far_sink_loans;
}

pub returns-in-Err-clause-drives : goal.returns-in-Err-clause-drives
returns-in-Err-clause-drives g c =
    more_said g.C.Conversation.holds g.C.Conversation.turn AnyTalk _ _ _ _ _ _ _ _ (λ t u v p q. tt) c.loop-near.invariant.driven.drives c.speak_turn.ensures.says.sends

pub returns-in-Done-clause-drives : goal.returns-in-Done-clause-drives
returns-in-Done-clause-drives g c = driven_any g.C.Conversation.holds g.C.Conversation.turn _ _ _ _ _ c.loop-near.invariant.driven.drives

pub returns-in-Done-clause-far : goal.returns-in-Done-clause-far
returns-in-Done-clause-far g c =
    drives_heard g.D.Conversation.holds g.D.Conversation.turn _ _ _ _ _ _ _ _ c.loop-near.invariant.far c.listen.ensures.hears

pub returns-in-Err-clause-fails : goal.returns-in-Err-clause-fails
returns-in-Err-clause-fails g c =
    fails_by g.C.Conversation.holds g.C.Conversation.turn g.W.Sink.contents g.W.Sink.passed_on g.W.Sink.is_down c.in-Err.fault c.loop-near.passed _ _ _ _ _ _ _ _
    c.loop-near.invariant.driven c.in-Speaks.ensures c.loop-near.invariant.all_sent (said_as g.C.Conversation.holds g.C.Conversation.turn g.W.Sink.contents g.W.Sink.passed_on g.W.Sink.is_down _ _ _ _ _ _ c.in-Err.is c.speak_turn.ensures.says) c.in-Err.ensures.kept
